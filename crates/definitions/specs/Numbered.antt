-- The numbers of the questions: document 01's, 14, and 15, 21 and 22 (document 02, 1/14 and 2/14). Assumes nothing.
use Rattle.std.specs.Prelude.{ℕ}
use Rattle.definitions.specs.declared.Question.{Question}
use Rattle.definitions.specs.declared.Question.TheVariants.{Room, SheetLength, SheetFilled, LineEnd, LineLength, Columns, Kind, Counts, Limits, Literals, NothingLeft, Restricted, Goals, Connected, ExportRoom, Header, ClauseLines}

abbrev pub question_number : Question → ℕ
question_number Room = 1
question_number SheetLength = 2
question_number SheetFilled = 3
question_number LineEnd = 4
question_number LineLength = 5
question_number Columns = 6
question_number Kind = 7
question_number Counts = 8
question_number Limits = 9
question_number Literals = 10
question_number NothingLeft = 11
question_number Restricted = 12
question_number Goals = 13
question_number Connected = 14
question_number ExportRoom = 15
question_number Header = 21
question_number ClauseLines = 22
