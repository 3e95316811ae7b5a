-- UNKNOWN that is a model: the setting that is read off a listing's bytes, every other atom false, and the tests under which it satisfies
-- the sheet. Assumes nothing.
use Rattle.std.specs.Prelude.{ℕ, ◌≤◌, ◌≡◌, Bool, true, not, ◌||◌, List, map, length, take, drop, get_or}
use Rattle.std.specs.Bool.{beq}
use Rattle.definitions.specs.Lists.{is_empty, any, all}
use Rattle.definitions.specs.Bounds.{room_bytes}
use Rattle.definitions.specs.Words.{Literal, plain, same_literal, Pattern, Rule, RuleLine, one_way, two_way, Problem}
use Rattle.definitions.specs.Instances.{Instance, task_of}
use Rattle.definitions.specs.Meaning.{Assignment}
use Rattle.definitions.specs.Sheet.{Number, plus}
use Rattle.definitions.specs.Questions.{has_reverse, accepted, read}
use Rattle.definitions.specs.Search.{is_goal}
use Rattle.definitions.specs.Text.{bytes}
use Rattle.definitions.specs.Call.{listed_part, printed}
use Rattle.definitions.specs.Sheets.{Answers, Row, of_kind}
use Rattle.definitions.specs.declared.Verdict.TheVariants.{Unknown}

-- ── the setting that a listing has ──

-- the literal on a line of kind 7: behind the kind its symbol, negative when negated, then its constants
unfoldable pub literal_on : Row → Literal
literal_on row =
    record {
      positive = not (get_or row 1 (plus 0)).negative;
      atom = record { symbol = (get_or row 1 (plus 0)).size; args = map (λ (n : Number). n.size) (drop 2 row) };
    }

-- those of a listing, from the top
unfoldable pub listed_literals : List ℕ → List Literal
listed_literals listing = map literal_on (of_kind 7 listing)

unfoldable pub is_listed : List ℕ → Literal → Bool
is_listed listing l = any (same_literal l) (listed_literals listing)

-- true for the atoms that are listed so; every other atom is false, also one that has no line
unfoldable pub listed_setting : List ℕ → Assignment
listed_setting listing a = is_listed listing (plain a)

-- a listing that says UNKNOWN of a sheet: what a call that answers so hands back, or what the program prints if it begins so
pub data SaysUnknown (sheet : List ℕ) (budget : ℕ) : List ℕ → Type 0 where
  handed_back : (room : List ℕ) → Answers sheet budget room Unknown → SaysUnknown sheet budget (listed_part sheet budget room)
  is_printed : take 8 (printed sheet budget) ≡ bytes "   5   1" → SaysUnknown sheet budget (printed sheet budget)

-- an accepted sheet of which at this budget every call with a room that is large enough says so, and the program
pub record IsUnknown (sheet : List ℕ) (budget : ℕ) (p : Problem) : Type 0 where
  pub reads : read sheet ≡ accepted p
  pub calls : (room : List ℕ) → room_bytes ≤ length room → SaysUnknown sheet budget (listed_part sheet budget room)
  pub prints : SaysUnknown sheet budget (printed sheet budget)

-- ── the tests ──

-- of the lines: a two-way rule asks no more than its rules do, since "the reverse rule is among them or the body is empty" (7/14)
unfoldable pub said_by_rules : RuleLine → Bool
said_by_rules (one_way r) = true
said_by_rules (two_way t) = has_reverse t || is_empty t.body

-- of the heads, by the sheet alone: no rule has a negated head, reverse rules included;
unfoldable pub positive_heads : Problem → Bool
positive_heads p = all (λ (r : Rule). all (λ (x : Pattern). x.positive) r.heads) p.rules

-- or every negated head, in every filling, is about a goal atom;
unfoldable pub named_heads : Problem → Bool
named_heads p = all (λ (i : Instance). all (λ (h : Literal). h.positive || is_goal (task_of p) h) i.heads) (task_of p).instances

-- or by the listing: in every filling whose heads the setting makes all true, each of them is listed
unfoldable pub is_made : Assignment → Literal → Bool
is_made v l = beq (v l.atom) l.positive

unfoldable pub listed_heads : List ℕ → Problem → Bool
listed_heads listing p =
    all (λ (i : Instance). not (all (is_made (listed_setting listing)) i.heads) || all (is_listed listing) i.heads) (task_of p).instances

-- names every definition of this module, for a theorem that computes with all of them
unfoldable pub models_all : Unit {0}
unfolding literal_on listed_literals is_listed listed_setting said_by_rules positive_heads named_heads is_made listed_heads
models_all = tt
