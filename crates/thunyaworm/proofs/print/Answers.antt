-- The front of the room that is written out is what is printed of the bytes that were read, and so of all the input. Assumes nothing.
use Rattle.std.proofs.Common.{ℕ, List, ◌≡◌, ◌∙◌, sym, subst, rules, take, length-take-le}
use Rattle.std.specs.Io.KnownBytes.{Appends}
use Rattle.definitions.specs.Call.{printed}
use Rattle.definitions.specs.Export.{printed_cnf}
use Rattle.theory.specs.CallLaws.{large-part}
use Rattle.solver.specs.LentLaws.{written-fits, written-front}
use Rattle.thunyaworm.specs.Outputs.{Outputs}
use Rattle.thunyaworm.proofs.Printing.{outputs-all, printed-front, printed_cnf-front}
use Rattle.thunyaworm.proofs.print.Goals as goal

pub slice_bounds-room-end : goal.slice_bounds-room-end
slice_bounds-room-end g c = written-fits _ _ c.print-size.ensures.length c.print-size.ensures.room

pub slice_bounds-write_all-end : goal.slice_bounds-write_all-end
slice_bounds-write_all-end g c = sym (length-take-le _ _ (written-fits _ _ c.print-size.ensures.length c.print-size.ensures.room))

pub slice_bounds-cnf-end : goal.slice_bounds-cnf-end
slice_bounds-cnf-end g c = written-fits _ _ c.print_cnf-size.ensures.length c.print_cnf-size.ensures.cnf

pub slice_bounds-write_all-end-in-Cnf : goal.slice_bounds-write_all-end-in-Cnf
slice_bounds-write_all-end-in-Cnf g c = sym (length-take-le _ _ (written-fits _ _ c.print_cnf-size.ensures.length c.print_cnf-size.ensures.cnf))

pub returns-in-Listing-clause-printed : goal.returns-in-Listing-clause-printed
returns-in-Listing-clause-printed g c =
    let budget = c.in-Listing.budget in
    let made : List ℕ → List ℕ = λ sheet. printed sheet budget in
    let input = g.R.Read.remaining c.args.input.now in
    let left = g.R.Read.remaining c.read_full.new.input in
    let before = g.W.Write.contents c.args.output.now in
    let after = g.W.Write.contents c.write_all.new.self in
    let sheet = c.in_ok-sheet.sheet.now in
    let listing = take c.print-size.result c.print-size.new.room in
    let listed : listing ≡ made sheet = written-front _ _ c.print-size.ensures.length c.print-size.ensures.room ∙ large-part sheet budget _ (search rules) in
    let all : Appends before after listing → Outputs made input before after =
    λ h. outputs-all made (printed-front budget) input left sheet (search rules) (search rules) before after (subst (Appends before after) listed h) in
    rw c.in-Listing.is (search (rules, all, c.write_all.ensures))

pub returns-in-Cnf-clause-printed : goal.returns-in-Cnf-clause-printed
returns-in-Cnf-clause-printed g c =
    let budget = c.in-Cnf.budget in
    let made : List ℕ → List ℕ = λ sheet. printed_cnf sheet budget in
    let input = g.R.Read.remaining c.args.input.now in
    let left = g.R.Read.remaining c.read_full.new.input in
    let before = g.W.Write.contents c.args.output.now in
    let after = g.W.Write.contents c.write_all-in-Cnf.new.self in
    let sheet = c.in_ok-sheet.sheet.now in
    let text = take c.print_cnf-size.result c.print_cnf-size.new.cnf in
    let exported : text ≡ made sheet = written-front _ _ c.print_cnf-size.ensures.length c.print_cnf-size.ensures.cnf in
    let all : Appends before after text → Outputs made input before after =
    λ h. outputs-all made (printed_cnf-front budget) input left sheet (search rules) (search rules) before after (subst (Appends before after) exported h) in
    rw c.in-Cnf.is (search (rules, all, c.write_all-in-Cnf.ensures))
