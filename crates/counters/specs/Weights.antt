-- The number of a clause as a sum: each of its different words weighs 257 where it is true, 1 where it is unset, nothing where it is false. What a word
-- whose weight changes does to the sum. Assumes nothing.
use Rattle.std.specs.Prelude.{ℕ, suc, ◌+◌, ◌*◌, ◌≤◌, ◌≡◌, Bool, not, ◌||◌, eqb, pos, negsuc, length, List, [], ◌∷◌, ◌++◌}
use Rattle.std.proofs.Math.Path.{refl, ap}
use Rattle.std.proofs.Common.{sym, ◌∙◌, zero-add, arith, eqb-true, eq-eqb, ne_eqb}
use Rattle.std.proofs.Math.Bool.{true, false, or-false}
use Rattle.std.proofs.lemmas.Bool.{false≢true, eqb-false}
use Rattle.definitions.specs.Lists.{any, filter, distinct}
use Rattle.definitions.specs.LiteralTest.{Value}
use Rattle.theory.specs.Tests.{by-test}
use Rattle.theory.specs.ListLaws.{any_append}
use Rattle.encoding.specs.Values.{Values, same_value, is_false_value, is_true_value, literal_value, false_word, true_word}
use Rattle.units.specs.Units.{not_false_words}
use Rattle.counters.specs.Counters.{count_not_false, count_true, read_whole}

-- ── weights ──

unfoldable pub one_if : Bool → ℕ → ℕ
one_if true n = n
one_if false n = 0

unfoldable pub weight : Value → ℕ
weight v = elim (is_false_value v) [ true ↦ 0 | false ↦ elim (is_true_value v) [ true ↦ 257 | false ↦ 1 ] ]

-- of a word under values
unfoldable pub weighs : Values → ℕ → ℕ
weighs values w = weight (literal_value values w)

pub weighs-as : (values : Values) (w : ℕ) (v : Value) → literal_value values w ≡ v → weighs values w ≡ weight v
unfolding weighs
weighs-as values w v e = ap weight e

weight-small : (v : Value) → weight v ≤ 257
unfolding weight
weight-small v =
    by-test (is_false_value v)
    (λ e. rw (e, weight) (omega arith))
    (λ e. by-test (is_true_value v) (λ t. rw (e, t, weight) (omega arith)) (λ t. rw (e, t, weight) (omega arith)))

pub weighs-small : (values : Values) (w : ℕ) → weighs values w ≤ 257
unfolding weighs
weighs-small values w = weight-small (literal_value values w)

-- ── their sum, a repeated word counting once ──

unfoldable pub once : (ℕ → ℕ) → List ℕ → ℕ
once f [] = 0
once f (w ∷ ws) = elim (any (eqb w) ws) [ true ↦ once f ws | false ↦ f w + once f ws ]

module _ (f : ℕ → ℕ) (w : ℕ) (ws : List ℕ) where
  once-again : any (eqb w) ws ≡ true → once f (w ∷ ws) ≡ once f ws
  unfolding once
  once-again e = rw (e, once)

  once-new : any (eqb w) ws ≡ false → once f (w ∷ ws) ≡ f w + once f ws
  unfolding once
  once-new e = rw (e, once)

module _ (x w : ℕ) (ws : List ℕ) where
  any_here : x ≡ w → any (eqb x) (w ∷ ws) ≡ true
  unfolding any
  any_here e = cc (eq-eqb x w e)

  any-there : (x ≡ w → ⊥) → any (eqb x) (w ∷ ws) ≡ any (eqb x) ws
  unfolding any
  any-there n = cc (ne_eqb x w n)

-- it is at least the weight of each word
pub once-holds : (f : ℕ → ℕ) (x : ℕ) (ws : List ℕ) → any (eqb x) ws ≡ true → f x ≤ once f ws
unfolding any
once-holds f x [] h = absurd (false≢true h)
once-holds f x (w ∷ ws) h =
    by-test (any (eqb w) ws)
    (λ a. rw (once-again f w ws a) (by-test (eqb x w)
    (λ q. once-holds f x ws (let e = eqb-true x w q in rw e a))
    (λ q. once-holds f x ws (sym (any-there x w ws (eqb-false x w q)) ∙ h))))
    (λ a. rw (once-new f w ws a) (by-test (eqb x w)
    (λ q. let e : f x ≡ f w = ap f (eqb-true x w q) in omega arith)
    (λ q. let l = once-holds f x ws (sym (any-there x w ws (eqb-false x w q)) ∙ h) in omega arith)))

-- and at most 257 for each
pub once-bound : (f : ℕ → ℕ) → ((w : ℕ) → f w ≤ 257) → (ws : List ℕ) → once f ws ≤ 257 * length ws
unfolding once
once-bound f h [] = omega arith
once-bound f h (w ∷ ws) =
    let i = once-bound f h ws in
    let l = h w in
    let n : length (w ∷ ws) ≡ suc (length ws) = refl in
    by-test (any (eqb w) ws)
    (λ a. rw (once-again f w ws a) (omega arith))
    (λ a. rw (once-new f w ws a) (omega arith))

-- one word more at the end
pub any_snoc : (x : ℕ) (ws : List ℕ) (w : ℕ) → any (eqb x) (ws ++ (w ∷ [])) ≡ (any (eqb x) ws || eqb x w)
unfolding any
any_snoc x ws w = any_append (eqb x) ws (w ∷ []) ∙ ap (λ (b : Bool). any (eqb x) ws || b) (or-false (eqb x w))

pub once-snoc : (f : ℕ → ℕ) (ws : List ℕ) (w : ℕ) → once f (ws ++ (w ∷ [])) ≡ once f ws + one_if (not (any (eqb w) ws)) (f w)
unfolding once any one_if
once-snoc f [] w = omega arith
once-snoc f (v ∷ vs) w =
    let i = once-snoc f vs w in
    let s = any_snoc v vs w in
    by-test (any (eqb v) vs)
    (λ a.
    let more : any (eqb v) (vs ++ (w ∷ [])) ≡ true = s ∙ rw a in
    by-test (eqb w v)
    (λ q.
    let e = eqb-true w v q in
    let b : any (eqb w) vs ≡ true = rw e a in
    let i' : once f (vs ++ (w ∷ [])) ≡ once f vs + 0 = rw (b, one_if) at i in
    rw (once-again f v (vs ++ (w ∷ [])) more, once-again f v vs a, any_here w v vs e, one_if) i')
    (λ q. rw (once-again f v (vs ++ (w ∷ [])) more, once-again f v vs a, any-there w v vs (eqb-false w v q)) i))
    (λ a.
    by-test (eqb v w)
    (λ q.
    let e = eqb-true v w q in
    let more : any (eqb v) (vs ++ (w ∷ [])) ≡ true = s ∙ rw (q, a) in
    let b : any (eqb w) vs ≡ false = rw (← e) a in
    let i' : once f (vs ++ (w ∷ [])) ≡ once f vs + f w = rw (b, one_if) at i in
    let g : f v ≡ f w = ap f e in
    rw (once-again f v (vs ++ (w ∷ [])) more, once-new f v vs a, any_here w v vs (sym e), one_if) (omega arith))
    (λ q.
    let n = eqb-false v w q in
    let none : any (eqb v) (vs ++ (w ∷ [])) ≡ false = s ∙ rw (q, a) in
    rw (once-new f v (vs ++ (w ∷ [])) none, once-new f v vs a, any-there w v vs (λ z. n (sym z))) (omega arith)))

-- ── one word's weight changes ──

module _ (f g : ℕ → ℕ) (x : ℕ) (same : (w : ℕ) → (w ≡ x → ⊥) → g w ≡ f w) where
  changed : (ws : List ℕ) → once g ws + one_if (any (eqb x) ws) (f x) ≡ once f ws + one_if (any (eqb x) ws) (g x)
  unfolding one_if once any
  changed [] = refl
  changed (w ∷ ws) =
      by-test (eqb x w)
      (λ e.
      let q : x ≡ w = eqb-true x w e in
      by-test (any (eqb w) ws)
      (λ a.
      let b : any (eqb x) ws ≡ true = rw q a in
      let i = changed ws in
      rw (any_here x w ws q, once-again f w ws a, once-again g w ws a) (rw b at i))
      (λ a.
      let b : any (eqb x) ws ≡ false = rw q a in
      let i : once g ws + 0 ≡ once f ws + 0 = rw b at (changed ws) in
      let r : g x ≡ g w = ap g q in
      let s : f x ≡ f w = ap f q in
      rw (any_here x w ws q, once-new f w ws a, once-new g w ws a) (omega arith)))
      (λ e.
      let n = eqb-false x w e in
      let m : w ≡ x → ⊥ = λ q. n (sym q) in
      let i = changed ws in
      by-test (any (eqb w) ws)
      (λ a. rw (any-there x w ws n, once-again f w ws a, once-again g w ws a) i)
      (λ a. let s = same w m in rw (any-there x w ws n, once-new f w ws a, once-new g w ws a) (omega arith)))

-- `up` is added to, and `down` taken from, the number of each clause that holds the word
pub record WeightStep (f g : ℕ → ℕ) (x up down : ℕ) : Type 0 where
  pub same : (w : ℕ) → (w ≡ x → ⊥) → g w ≡ f w
  pub here : g x + down ≡ f x + up

pub step_back : {f g : ℕ → ℕ} {x up down : ℕ} → WeightStep f g x up down → WeightStep g f x down up
step_back s = record { same = λ w n. sym (s.same w n); here = sym s.here }

pub step_sum : {f g : ℕ → ℕ} {x up down : ℕ} → WeightStep f g x up down → (ws : List ℕ)
    → once g ws + one_if (any (eqb x) ws) down ≡ once f ws + one_if (any (eqb x) ws) up
unfolding one_if
step_sum {f = f} {g = g} {x = x} s ws =
    let h = s.here in
    let c = changed f g x s.same ws in
    by-test (any (eqb x) ws) (λ a. rw (a, one_if) (let d = rw (a, one_if) at c in omega arith)) (λ a. rw (a, one_if) (let d = rw (a, one_if) at c in omega arith))

-- ── the sum is what reading the clause whole gives ──

unfoldable total : (ℕ → ℕ) → List ℕ → ℕ
total f [] = 0
total f (w ∷ ws) = f w + total f ws

-- a weight without one word
unfoldable without : ℕ → (ℕ → ℕ) → ℕ → ℕ
without x f w = elim (eqb x w) [ true ↦ 0 | false ↦ f w ]

total-without : (x : ℕ) (f : ℕ → ℕ) (ws : List ℕ) → total f (filter (λ (y : ℕ). not (eqb x y)) ws) ≡ total (without x f) ws
unfolding total filter without
total-without x f [] = refl
total-without x f (w ∷ ws) =
    by-test (eqb x w)
    (λ e. rw (e, filter, total, without) (total-without x f ws ∙ sym (zero-add (total (without x f) ws))))
    (λ e. rw (e, filter, total, without) (ap (λ (n : ℕ). f w + n) (total-without x f ws)))

without-here : (x : ℕ) (f : ℕ → ℕ) → without x f x ≡ 0
unfolding without
without-here x f = rw (eq-eqb x x refl, without)

without_other : (x : ℕ) (f : ℕ → ℕ) (w : ℕ) → (w ≡ x → ⊥) → without x f w ≡ f w
unfolding without
without_other x f w n = rw (ne_eqb x w (λ q. n (sym q)), without)

once-distinct : (f : ℕ → ℕ) (ws : List ℕ) → total f (distinct eqb ws) ≡ once f ws
unfolding total distinct once any one_if
once-distinct f [] = refl
once-distinct f (w ∷ ws) =
    let i : total f (filter (λ (y : ℕ). not (eqb w y)) (distinct eqb ws)) ≡ once (without w f) ws = total-without w f (distinct eqb ws) ∙ once-distinct (without w f) ws in
    let c = changed f (without w f) w (without_other w f) ws in
    let z = without-here w f in
    by-test (any (eqb w) ws)
    (λ a. rw (a, once) (let d = rw (a, one_if) at c in omega arith))
    (λ a. rw (a, once) (let d = rw (a, one_if) at c in omega arith))

-- what is false is not true
pub false-not-true : (v : Value) → is_false_value v ≡ true → is_true_value v ≡ false
unfolding is_false_value is_true_value same_value
false-not-true (pos n) e = absurd (false≢true e)
false-not-true (negsuc n) e = refl

-- both counts are sums of weights
counts-total : (values : Values) (ws : List ℕ)
    → length (filter (λ (w : ℕ). not (false_word values w)) ws) + 256 * length (filter (true_word values) ws) ≡ total (λ (w : ℕ). weight (literal_value values w)) ws
unfolding filter total weight false_word true_word
counts-total values [] = refl
counts-total values (w ∷ ws) =
    let i = counts-total values ws in
    by-test (is_false_value (literal_value values w))
    (λ e. let n = false-not-true (literal_value values w) e in rw (e, n, filter, total, weight) (omega arith))
    (λ e. by-test (is_true_value (literal_value values w))
    (λ t. rw (e, t, filter, total, weight) (omega arith))
    (λ t. rw (e, t, filter, total, weight) (omega arith)))

pub whole-is-once : (values : Values) (ws : List ℕ) → read_whole values ws ≡ once (weighs values) ws
unfolding read_whole count_not_false count_true not_false_words weighs
whole-is-once values ws = counts-total values (distinct eqb ws) ∙ once-distinct (weighs values) ws
