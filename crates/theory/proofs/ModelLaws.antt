-- UNKNOWN that is a model: the setting that a listing has is that of the trail, and under each of the tests it satisfies the sheet. Assumes
-- nothing.
use Prim.Native.Nat.{ℕ, suc}
use Rattle.std.specs.Prelude.{◌≡◌, List, map, take}
use Rattle.std.proofs.Math.Path.{refl, sym, ap, subst}
use Rattle.std.proofs.Common.{◌∙◌, arith}
use Rattle.std.proofs.Math.Logic.{inl, inr}
use Rattle.std.proofs.Math.Bool.{true, not}
use mathlib.Core.List.Memᴰ
use Rattle.std.proofs.lemmas.Bool.{not-true}
use Rattle.definitions.specs.Lists.{◌∈◌, is_empty, all}
use Rattle.definitions.specs.Words.{Literal, negate, plain, same_literal, Rule, RuleLine, one_way, two_way, Problem}
use Rattle.definitions.specs.Instances.{ground, Instance, fill, task_of}
use Rattle.definitions.specs.Meaning.{Makes, Closure, derived, both_signs, false_body, SatisfiesClause, SatisfiesClauses, AllHold, BodyHolds, SatisfiesRule, SatisfiesLine, Satisfies}
use Rattle.definitions.specs.Questions.{has_reverse, rules_of, Reading, accepted, read}
use Rattle.definitions.specs.Search.{Trail, is_true, is_false, State, is_goal, done, search}
use Rattle.definitions.specs.Verdicts.{setting, FirstChoice}
use Rattle.definitions.specs.Listing.{settings, listing, listing_all}
use Rattle.definitions.specs.Text.{bytes, text_all}
use Rattle.definitions.specs.Call.{searched, answered, listing_of, listed_part, printed}
use Rattle.definitions.specs.Sheets.{lists}
use Rattle.definitions.specs.Models.{listed_literals, is_listed, listed_setting, SaysUnknown, handed_back, is_printed, IsUnknown, said_by_rules, positive_heads, named_heads, is_made, listed_heads}
use Rattle.definitions.specs.declared.Verdict.TheVariants.{Unknown}
use Rattle.theory.specs.Tests.{by-test, true-and-false, or_cases, or_left, or_right}
use Rattle.theory.specs.ListLaws.{in-along, empty-nil, any_of, none_any, all-each, all_of, joined_of, all-or-else, Each}
use Rattle.theory.specs.PlaceLaws.{get_elem-at}
use Rattle.theory.specs.WordLaws.{beq-eq, beq-refl, same_literal-eq, same_literal-refl, makes_one, as_plain}
use Rattle.theory.specs.InstanceLaws.{every-filling, only-fillings, filled-rule, filled-heads}
use Rattle.theory.specs.TwoWayLaws.{implies-filling, rules-equivalence, FromLines}
use Rattle.theory.specs.SearchLaws.{Consistent, true-at, is_goal-in}
use Rattle.theory.specs.Unknown.{true-makes, makes-true}
use Rattle.theory.specs.Limits.{Limits, accepted-limits, accepted-from-lines}
use Rattle.theory.proofs.Invariants.{search-sound}
use Rattle.theory.specs.ListingLaws.{settings-in, in-settings, answer-listed, listing_begins}
use Rattle.theory.proofs.ListedClauses.{settings-listed}
use Rattle.theory.specs.Theorems.{search-comes-to-an-answer}
use Rattle.theory.specs.CallLaws.{large-room, printed-listing}
use Rattle.theory.specs.CallAnswers.{answer-from-search, its-search}
use Rattle.theory.proofs.Theorems.{unknown}

-- ── a setting that makes no heads true but those that are ──

-- the rules of a line are the problem's
rule-of : {p : Problem} → FromLines p → (l : RuleLine) → l ∈ p.rule_lines → (r : Rule) → r ∈ rules_of l → r ∈ p.rules
rule-of {p = p} lines l m r n = in-along lines.rules (joined_of rules_of p.rule_lines l r m n)

module _ (p : Problem) (t : Trail) (first : FirstChoice (task_of p) t) where
  -- no atom has both signs
  one-sign : Consistent t
  unfolding is_false
  one-sign l h n = first.neither (inr (both_signs l (first.sound l h) (first.sound (negate l) n)))

  -- the setting breaks no clause
  setting-clauses : SatisfiesClauses (setting t) p.clauses
  unfolding task_of
  setting-clauses c m =
      elim (all-or-else (λ l. Makes (setting t) (negate l)) {F = SatisfiesClause (setting t) c} c (λ l i. elim (makes_one (setting t) l) [
        | inl h ↦ inr (record { literal = l; inside = i; holds = h })
        | inr h ↦ inl h
      ])) [
        | inl broken ↦ absurd (first.neither (inl (record { clause = c; inside = m; all_false = broken })))
        | inr s ↦ s
      ]

  -- where the heads of an instance that it makes all true are true, so is the body, and there is one
  module _ (heads : (i : Instance) → i ∈ (task_of p).instances → Each (Makes (setting t)) i.heads → Each (λ h. is_true t h ≡ true) i.heads) where
    setting-rule : (r : Rule) → r ∈ p.rules → SatisfiesRule (setting t) p.constants r
    unfolding fill
    setting-rule r its f inside = implies-filling (setting t) f r body
      where
        place : ℕ
        place = (get_elem-at its).0

        instance : Instance
        instance = fill (suc place) r f

        listed : instance ∈ (task_of p).instances
        listed = every-filling p instance (record { place = place; rule = r; its = (get_elem-at its).1; filling = f; inside = inside; made = refl })

        body : AllHold (setting t) f r.heads → BodyHolds (setting t) f r.body
        body hold =
            let made : Each (Makes (setting t)) (map (ground f) r.heads) = λ h m. let (x, n, q) = Memᴰ.of_map (ground f) r.heads m in subst (Makes (setting t)) q (hold x n) in
            let closed : (h : Literal) → h ∈ map (ground f) r.heads → Closure (task_of p) (setting t) h = λ h m. first.sound h (heads instance listed made h m) in (
              λ none. first.neither (inr (false_body instance listed closed (ap (map (ground f)) none))),
              λ x m. true-makes t one-sign (ground f x) (first.complete (ground f x) (derived instance listed closed (Memᴰ.map (ground f) m))),
            )

    -- and so it is with lines that ask no more than their rules
    setting-line : FromLines p → (l : RuleLine) → l ∈ p.rule_lines → said_by_rules l ≡ true → SatisfiesLine (setting t) p.constants l
    unfolding said_by_rules rules_of
    setting-line lines (one_way r) m e = setting-rule r (rule-of lines (one_way r) m r (Memᴰ.head refl))
    setting-line lines (two_way w) m e =
        rules-equivalence (setting t) p.constants w
        (elim (or_cases (has_reverse w) (is_empty w.body) e) [ inl h ↦ inl h | inr h ↦ inr (empty-nil w.body h) ])
        (λ r n. setting-rule r (rule-of lines (two_way w) m r n))

    pub setting-satisfies : FromLines p → all said_by_rules p.rule_lines ≡ true → Satisfies (setting t) p
    setting-satisfies lines said = record { clauses = setting-clauses; lines = λ l m. setting-line lines l m (all-each said_by_rules p.rule_lines said l m) }

-- ── the setting that a listing has ──

module _ (listed : List ℕ) where
  -- a positive head that the setting makes is listed, by what the setting is
  positive-head : (h : Literal) → h.positive ≡ true → is_made (listed_setting listed) h ≡ true → is_listed listed h ≡ true
  unfolding is_made listed_setting
  positive-head h e made = ap (is_listed listed) (as_plain h e) ∙ beq-eq (is_listed listed (plain h.atom)) h.positive made ∙ e

  -- where each head that it makes is listed, the test is passed
  heads-listed : (p : Problem) → ((i : Instance) → i ∈ (task_of p).instances → (h : Literal) → h ∈ i.heads → is_made (listed_setting listed) h ≡ true → is_listed listed h ≡ true)
      → listed_heads listed p ≡ true
  unfolding listed_heads
  heads-listed p each =
      all_of _ (task_of p).instances (λ i m.
      let made = all (is_made (listed_setting listed)) i.heads in
      by-test made
      (λ e. or_right (not made) _ (all_of (is_listed listed) i.heads (λ h n. each i m h n (all-each (is_made (listed_setting listed)) i.heads e h n))))
      (λ e. or_left (not made) _ (ap not e)))

  -- so it is where all heads are positive, whatever is listed
  positive-listed : (p : Problem) → positive_heads p ≡ true → listed_heads listed p ≡ true
  unfolding positive_heads ground
  positive-listed p e =
      heads-listed p (λ i m h n.
      let f = only-fillings p i m in
      let (x, k, q) = Memᴰ.of_map (ground f.filling) f.rule.heads (subst (λ ls. h ∈ ls) (filled-heads f) n) in
      let positive = all-each _ f.rule.heads (all-each _ p.rules e f.rule (filled-rule f).1) x k in
      positive-head h (ap (λ (l : Literal). l.positive) (sym q) ∙ positive))

module _ (p : Problem) (limits : Limits p) (budget : ℕ) (s : State) (ends : search p budget ≡ done Unknown s) where
  -- what is listed is what is true: all that is set is in the table
  listed-true : (l : Literal) → is_listed (listing Unknown s) l ≡ is_true s.trail l
  unfolding is_listed search task_of
  listed-true l =
      let back = settings-listed p limits budget Unknown s ends in
      let fits = (search-sound (task_of p) budget Unknown s (omega (arith, limits.goals)) ends).fits in
      by-test (is_true s.trail l)
      (λ h.
      let w = true-at s.trail l h in
      let inside = subst (λ (x : Literal). x.atom ∈ s.table) w.its (fits.entered w.entry w.inside) in
      any_of (same_literal l) _ l (rw back (in-settings s l inside h)) (same_literal-refl l) ∙ sym h)
      (λ h.
      none_any (same_literal l) _ (λ m n. by-test (same_literal l m) (λ q. true-and-false (rw (← same_literal-eq l m q) at (settings-in Unknown s m (rw back at n)).1) h) (λ q. q)) ∙ sym h)

  setting-listed : listed_setting (listing Unknown s) ≡ setting s.trail
  unfolding listed_setting setting
  setting-listed = λ i a. listed-true (plain a) i

  -- ── the tests ──

  -- heads that the setting makes all true are listed, and so they are true
  heads-true : listed_heads (listing Unknown s) p ≡ true → (i : Instance) → i ∈ (task_of p).instances → Each (Makes (setting s.trail)) i.heads
      → Each (λ h. is_true s.trail h ≡ true) i.heads
  unfolding listed_heads is_made
  heads-true e i m made =
      let is_made_here = is_made (listed_setting (listing Unknown s)) in
      let all_made : all is_made_here i.heads ≡ true = all_of is_made_here i.heads (λ h n. rw (setting-listed, made h n) (beq-refl h.positive)) in
      elim (or_cases (not (all is_made_here i.heads)) (all (is_listed (listing Unknown s)) i.heads) (all-each _ (task_of p).instances e i m)) [
        | inl none ↦ true-and-false all_made (not-true (all is_made_here i.heads) none)
        | inr listed ↦ λ h n. sym (listed-true h) ∙ all-each (is_listed (listing Unknown s)) i.heads listed h n
      ]

  listed-satisfies : FirstChoice (task_of p) s.trail → FromLines p → all said_by_rules p.rule_lines ≡ true → listed_heads (listing Unknown s) p ≡ true
      → Satisfies (listed_setting (listing Unknown s)) p
  listed-satisfies first lines said heads = rw setting-listed (setting-satisfies p s.trail first (heads-true heads) lines said)

  -- a goal atom is set, so a head over it that the setting makes is listed
  goal-head : FirstChoice (task_of p) s.trail → (h : Literal) → is_goal (task_of p) h ≡ true → is_made (listed_setting (listing Unknown s)) h ≡ true
      → is_listed (listing Unknown s) h ≡ true
  unfolding is_made
  goal-head first h goal made =
      let set = first.set h.atom (is_goal-in (task_of p) h goal) in
      listed-true h ∙ makes-true s.trail h set (ap (λ v. v h.atom) (sym setting-listed) ∙ beq-eq (listed_setting (listing Unknown s) h.atom) h.positive made)

  -- so the test is passed where each head is positive or about a goal atom
  named-listed : FirstChoice (task_of p) s.trail → named_heads p ≡ true → listed_heads (listing Unknown s) p ≡ true
  unfolding named_heads
  named-listed first e =
      heads-listed (listing Unknown s) p (λ i m h n.
      elim (or_cases h.positive (is_goal (task_of p) h) (all-each _ i.heads (all-each _ (task_of p).instances e i m) h n)) [
        | inl positive ↦ positive-head (listing Unknown s) h positive
        | inr goal ↦ goal-head first h goal
      ])

-- ── a listing that says UNKNOWN of a sheet ──

-- it is that of the state in which the search ends
record ListingOf (p : Problem) (budget : ℕ) (listed : List ℕ) : Type 0 where
  state : State
  ends : search p budget ≡ done Unknown state
  its : listed ≡ listing Unknown state

module _ (sheet : List ℕ) (p : Problem) (reads : read sheet ≡ accepted p) (budget : ℕ) where
  says-listing : (listed : List ℕ) → SaysUnknown sheet budget listed → ListingOf p budget listed
  unfolding text_all listing_all
  says-listing listed (handed_back room given) =
      let f = answer-from-search sheet budget room Unknown given in
      record { state = f.state; ends = its-search sheet budget room p reads Unknown f; its = f.answer.part }
  says-listing listed (is_printed begins) =
      let ends = search-comes-to-an-answer sheet p reads budget in
      let prints = printed-listing sheet p reads budget ends.verdict ends.state ends.is in
      let is = listing_begins ends.verdict Unknown ends.state (bytes "   5   1") (ap (take 8) (sym prints) ∙ begins) refl in
      record { state = ends.state; ends = ends.is ∙ ap (λ v. done v ends.state) is; its = prints ∙ ap (λ v. listing v ends.state) is }

  -- a sheet of which the program says UNKNOWN
  pub is-unknown : take 8 (printed sheet budget) ≡ bytes "   5   1" → IsUnknown sheet budget p
  unfolding listed_part listing_of answered searched
  is-unknown begins =
      let w = says-listing (printed sheet budget) (is_printed begins) in
      record {
        reads = reads;
        calls = λ room large.
            let part : listed_part sheet budget room ≡ listing Unknown w.state
            = ap listing_of (large-room sheet budget room large ∙ ap (λ (r : Reading). answered r budget) reads ∙ ap searched w.ends) in
            handed_back room (lists (rw part (answer-listed Unknown w.state)));
        prints = is_printed begins;
      }

  module _ (listed : List ℕ) (says : SaysUnknown sheet budget listed) where
    abbrev w : ListingOf p budget listed
    w = says-listing listed says

    abbrev limits : Limits p
    limits = accepted-limits sheet p reads

    abbrev first : FirstChoice (task_of p) w.state.trail
    first = unknown sheet p reads budget w.state w.ends

    -- the lines of kind 7 are the set literals, and the setting is the trail's
    pub unknown-settings : (s : State) → search p budget ≡ done Unknown s → (listed_literals listed ≡ settings Unknown s) × (listed_setting listed ≡ setting s.trail)
    unknown-settings s ends =
        let same = sym w.ends ∙ ends in
        let its : listed ≡ listing Unknown s = w.its ∙ cc in
        (rw its (settings-listed p limits budget Unknown s ends), rw its (setting-listed p limits budget s ends))

    -- it satisfies the sheet
    module _ (said : all said_by_rules p.rule_lines ≡ true) where
      pub model-listed : listed_heads listed p ≡ true → Satisfies (listed_setting listed) p
      model-listed heads = rw w.its (listed-satisfies p limits budget w.state w.ends first (accepted-from-lines sheet p reads) said (rw w.its at heads))

      pub model-positive : positive_heads p ≡ true → Satisfies (listed_setting listed) p
      model-positive heads = model-listed (positive-listed listed p heads)

      pub model-named : named_heads p ≡ true → Satisfies (listed_setting listed) p
      model-named heads = model-listed (rw w.its (named-listed p limits budget w.state w.ends first heads))
