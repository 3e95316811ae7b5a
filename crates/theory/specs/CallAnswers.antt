-- The answer of every call that answers is the first call's, and that is the one that the search comes to. Assumes nothing.
use Rattle.std.specs.Prelude.{ℕ, ◌≡◌, refl, List, [], ◌∷◌, ◌++◌, leb, length, take, drop}
use Rattle.std.proofs.Common.{sym, ap, ◌∙◌, subst, arith}
use Rattle.std.proofs.Math.Option.{none}
use Rattle.definitions.specs.Lists.{lists_all}
use Rattle.definitions.specs.Words.{Problem}
use Rattle.definitions.specs.Sheet.{Number, number, plus, decimal, sheet_all}
use Rattle.definitions.specs.Questions.{accepted, read}
use Rattle.definitions.specs.Search.{done, search}
use Rattle.definitions.specs.Listing.{answer_number, refusal_line, listing_all}
use Rattle.definitions.specs.Call.{Lending, lendings, first_short, after_lending, result, record_of, answer_of, call, listed_part, printed_part, RefusedWith, too_small, improper, proper, FromSearch}
use Rattle.definitions.specs.Export.{export_result, export_lendings, export_call}
use Rattle.definitions.specs.Sheets.{Answers, hands_back, lists, prints, export_hands_back}
use Rattle.definitions.specs.declared.Verdict.{Verdict}
use Rattle.definitions.specs.declared.Counts.{Counts}
use Rattle.definitions.specs.declared.Answer.TheVariants.{Answered}
use Rattle.theory.specs.Tests.{by-test, by-option, apart}
use Rattle.theory.specs.ListingLaws.{listed_answer}
use Rattle.theory.specs.CallLaws.{accepted-injective, call-comes, printed-refusal, printed-listing, small-part, large-part}

-- where no question about what is lent is answered no, none of the first ones is
none-short : (ls more : List Lending) → first_short (ls ++ more) ≡ none → first_short ls ≡ none
unfolding first_short
none-short [] more e = refl
none-short (l ∷ ls) more e = by-test (leb l.asked l.lent) (λ t. cc (none-short ls more (cc))) (λ t. apart (cc))

number-injective : {m n : Number} → number m ≡ number n → m ≡ n
number-injective e = cc

-- the line of a refusal is of kind 9, and not of kind 5
refusal-unlisted : (q n : ℕ) → decimal (take 4 (refusal_line q n)) ≡ number (plus 5) → ⊥
unfolding lists_all sheet_all listing_all
refusal-unlisted q n e = let sizes : ◌≡◌ {A = ℕ} 9 5 = ap (λ (m : Number). m.size) (number-injective e) in omega arith

module _ (sheet : List ℕ) (budget : ℕ) (room : List ℕ) where
  -- ── the first call's ──

  -- a call that is lent more besides the room, and asks about it behind question 1, answers as the first call does
  further-lent : (more : List Lending) (c : Counts) → answer_of (after_lending (lendings (length room) ++ more) sheet budget) ≡ Answered c
      → call sheet budget room ≡ Answered c
  unfolding call result after_lending answer_of
  further-lent more c e =
      by-option (first_short (lendings (length room) ++ more))
      (λ t. cc (none-short (lendings (length room)) more t))
      (λ q t. apart (cc))

  -- what a call answers the first one hands back
  record FirstHandsBack (v : Verdict) : Type 0 where
    pub counts : Counts
    pub hands_back : call sheet budget room ≡ Answered counts
    pub says : counts.verdict ≡ v

  -- the listing's answer
  listed-first : (v : Verdict) → decimal (take 4 (drop 4 (listed_part sheet budget room))) ≡ number (plus (answer_number v)) → FirstHandsBack v
  listed-first v e =
      elim (call-comes sheet budget room) [
        | too_small h r ↦ absurd (unlisted 1 0 r)
        | improper h q n d r ↦ absurd (unlisted q n r)
        | proper h p d w s c a ↦ record { counts = record_of w s; hands_back = a.handed_back; says = listed_answer w v s (rw a.part at e) }
      ]
    where
      unlisted : (q n : ℕ) → RefusedWith sheet budget room q n → ⊥
      unlisted q n r = unfold decimal in let z : decimal (take 4 (drop 4 [])) ≡ number (plus (answer_number v)) = rw r.part at e in apart (cc)

  -- what is printed and begins with kind 5 is the listing
  printed-first : (v : Verdict) → decimal (take 4 (printed_part sheet budget room)) ≡ number (plus 5)
      → decimal (take 4 (drop 4 (printed_part sheet budget room))) ≡ number (plus (answer_number v)) → FirstHandsBack v
  printed-first v kind e =
      elim (call-comes sheet budget room) [
        | too_small h r ↦ absurd (nothing-printed (small-part sheet budget room h))
        | improper h q n d r ↦ absurd (kind-9 q n (large-part sheet budget room h ∙ printed-refusal sheet q n d budget))
        | proper h p d w s c a ↦
            let same = large-part sheet budget room h ∙ printed-listing sheet p d budget w s c ∙ sym a.part in
            listed-first v (subst (λ bytes. decimal (take 4 (drop 4 bytes)) ≡ number (plus (answer_number v))) same e)
      ]
    where
      nothing-printed : printed_part sheet budget room ≡ [] → ⊥
      nothing-printed f = unfold decimal in let z : decimal (take 4 []) ≡ number (plus 5) = rw f at kind in apart (cc)

      kind-9 : (q n : ℕ) → printed_part sheet budget room ≡ refusal_line q n → ⊥
      kind-9 q n f = refusal-unlisted q n (sym (ap (λ bytes. decimal (take 4 bytes)) f) ∙ kind)

  -- one law for each case
  first-hands-back : (v : Verdict) → Answers sheet budget room v → FirstHandsBack v
  unfolding export_call export_result export_lendings
  first-hands-back v (hands_back c e d) = record { counts = c; hands_back = e; says = d }
  first-hands-back v (lists e) = listed-first v e
  first-hands-back v (prints k e) = printed-first v k e
  first-hands-back v (export_hands_back export c e d) = record { counts = c; hands_back = further-lent _ c e; says = d }

  -- ── the search's ──

  pub answer-from-search : (v : Verdict) → Answers sheet budget room v → FromSearch sheet budget room v
  answer-from-search v given =
      let f = first-hands-back v given in
      let e = f.hands_back in
      elim (call-comes sheet budget room) [
        | too_small h r ↦ let z = sym r.handed_back ∙ e in apart (cc)
        | improper h q n d r ↦ let z = sym r.handed_back ∙ e in apart (cc)
        | proper h p d w s c a ↦
            let z = sym a.handed_back ∙ e in
            let same : w ≡ v = cc f.says in
            subst (FromSearch sheet budget room) same (record { problem = p; reads = d; state = s; comes = c; answer = a })
      ]

  -- a sheet says one problem, whose search that is
  pub its-search : (p : Problem) → read sheet ≡ accepted p → (v : Verdict) (f : FromSearch sheet budget room v) → search p budget ≡ done v f.state
  its-search p reads v f = let same : p ≡ f.problem = accepted-injective (sym reads ∙ f.reads) in ap (λ (q : Problem). search q budget) same ∙ f.comes
