-- The bits of a word: which of them are set, the set ones in rising order, the word that has given bits, and what `&`, `|`, the difference,
-- the complement, a shift, a power of two and a bit that is put, taken off or replaced do to them. Assumes nothing.
use Rattle.std.specs.Prelude.{ℕ, zero, suc, ◌+◌, ◌-◌, ◌*◌, ◌/◌, ◌%◌, ◌^◌, ◌≤◌, ◌<◌, min, max, ◌≡◌, refl, Bool, true, false, not, ◌&&◌, ◌||◌, List, [], ◌∷◌, eqb, get_or}
use Rattle.std.proofs.Common.{sym, ap, ◌∙◌, ⊎_elim, pow-suc, add-zero, one-mul, zero-mul, eq-zero-or-pos, div-one, mul_comm, arith, lit<, pow_pos, shl_exact, eqb-true, eq-eqb, ne_eqb}
use Rattle.std.proofs.Math.Bool.{and-true, and-false, or-false}
use Rattle.std.proofs.Math.Nat.{div-div-eq-div-mul}
use Rattle.std.proofs.Math.Dec.{eqb-zero-suc, eqb-suc-zero, eqb-suc-suc}
use Rattle.std.specs.Int.Bits.{bit_and, bit_or, and_step, or_step}
use Rattle.std.proofs.lemmas.Nat.{and_le_l}
use Rattle.std.specs.Int.Count.{count_trailing_zeros}
use Rattle.std.proofs.lemmas.Bool.{eqb-false}

-- the word has a bit
unfoldable pub has : ℕ → ℕ → Bool
has zero m = eqb (m % 2) 1
has (suc c) m = has c (m / 2)

-- a set of numbers, 64 to a word
unfoldable pub among : List ℕ → ℕ → Bool
among words c = has (c % 64) (get_or words (c / 64) 0)

-- so many bits of a word, its lowest standing for i: the numbers of those set, rising
unfoldable pub bits_from : ℕ → ℕ → ℕ → List ℕ
bits_from i zero m = []
bits_from i (suc k) m = elim (eqb (m % 2) 1) [ true ↦ i ∷ bits_from (suc i) k (m / 2) | false ↦ bits_from (suc i) k (m / 2) ]

unfoldable pub bits_of : ℕ → List ℕ
bits_of m = bits_from 0 32 m

-- the word with the given bits, so many of them
unfoldable pub packed : ℕ → (ℕ → Bool) → ℕ
packed zero bit = 0
packed (suc k) bit = elim (bit 0) [ true ↦ 1 | false ↦ 0 ] + 2 * packed k (λ (c : ℕ). bit (suc c))

pub by_bit : (w : ℕ) {C : Type 0} → (w % 2 ≡ 0 → C) → (w % 2 ≡ 1 → C) → C
by_bit w z o = ⊎_elim (λ e. z e) (λ p. o (omega arith)) (eq-zero-or-pos (w % 2))

-- ── the lowest bit is taken off ──

pub bits_none : (i k : ℕ) → bits_from i k 0 ≡ []
unfolding bits_from
bits_none i zero = refl
bits_none i (suc k) = bits_none (suc i) k

module _ (i k m : ℕ) where
  pub bits-odd : m % 2 ≡ 1 → bits_from i (suc k) m ≡ i ∷ bits_from (suc i) k (m / 2)
  unfolding bits_from
  bits-odd e = rw (e, bits_from)

  bits-even : m % 2 ≡ 0 → bits_from i (suc k) m ≡ bits_from (suc i) k (m / 2)
  unfolding bits_from
  bits-even e = rw (e, bits_from)

zeros-none : (m : ℕ) → count_trailing_zeros 0 m ≡ 0
unfolding count_trailing_zeros
zeros-none m = refl

module _ (k m : ℕ) where
  pub zeros-odd : m % 2 ≡ 1 → count_trailing_zeros (suc k) m ≡ 0
  unfolding count_trailing_zeros
  zeros-odd e = rw e

  pub zeros-even : m % 2 ≡ 0 → count_trailing_zeros (suc k) m ≡ suc (count_trailing_zeros k (m / 2))
  unfolding count_trailing_zeros
  zeros-even e = rw e

pub lowest : (i k m : ℕ) → 0 < m → m < 2 ^ k
    → (2 ^ count_trailing_zeros k m ≤ m) × (count_trailing_zeros k m < k) × (bits_from i k m ≡ (i + count_trailing_zeros k m) ∷ bits_from i k (m - 2 ^ count_trailing_zeros k m))
lowest i zero m p l = absurd (omega arith)
lowest i (suc k) m p l =
    by_bit m
    (λ e.
    let t = count_trailing_zeros k (m / 2) in
    let d = pow-suc 2 t in
    let x = pow-suc 2 k in
    let (a, b, c) = lowest (suc i) k (m / 2) (omega arith) (omega arith) in
    let even : (m - 2 ^ suc t) % 2 ≡ 0 = omega arith in
    let half : (m - 2 ^ suc t) / 2 ≡ m / 2 - 2 ^ t = omega arith in
    let next : bits_from i (suc k) (m - 2 ^ suc t) ≡ bits_from (suc i) k (m / 2 - 2 ^ t) = bits-even i k (m - 2 ^ suc t) even ∙ rw half in
    let same : suc i + t ≡ i + suc t = omega arith in
    rw (zeros-even k m e) (omega arith, omega arith, bits-even i k m e ∙ c ∙ rw (same, next)))
    (λ e.
    let even : (m - 1) % 2 ≡ 0 = omega arith in
    let half : (m - 1) / 2 ≡ m / 2 = omega arith in
    let next : bits_from i (suc k) (m - 1) ≡ bits_from (suc i) k (m / 2) = bits-even i k (m - 1) even ∙ rw half in
    rw (zeros-odd k m e) (omega arith, omega arith, bits-odd i k m e ∙ rw (add-zero i, next)))

-- it is set, and none below it is
pub has-lowest : (k m : ℕ) → 0 < m → m < 2 ^ k → has (count_trailing_zeros k m) m ≡ true
unfolding has
has-lowest zero m p l = absurd (omega arith)
has-lowest (suc k) m p l =
    by_bit m
    (λ e. let x = pow-suc 2 k in rw (zeros-even k m e) (has-lowest k (m / 2) (omega arith) (omega arith)))
    (λ e. rw (zeros-odd k m e, e))

pub none-lower : (k c m : ℕ) → c < count_trailing_zeros k m → has c m ≡ false
unfolding has
none-lower zero c m l = let z = zeros-none m in absurd (omega arith)
none-lower (suc k) zero m l = by_bit m (λ e. rw e) (λ e. let z = zeros-odd k m e in absurd (omega arith))
none-lower (suc k) (suc c) m l =
    by_bit m
    (λ e. let z = zeros-even k m e in none-lower k c (m / 2) (omega arith))
    (λ e. let z = zeros-odd k m e in absurd (omega arith))

-- ── `&`, `|` and the difference, bit by bit ──

and-half : (a b : ℕ) → bit_and a b / 2 ≡ bit_and (a / 2) (b / 2)
and-half a b = let e = and_step a b in omega arith

and-odd : (a b : ℕ) → bit_and a b % 2 ≡ min (a % 2) (b % 2)
and-odd a b = let e = and_step a b in omega arith

pub has-and : (c a b : ℕ) → has c (bit_and a b) ≡ (has c a && has c b)
unfolding has
has-and zero a b =
    rw (and-odd a b) (by_bit a (λ p. by_bit b (λ q. rw (p, q)) (λ q. rw (p, q))) (λ p. by_bit b (λ q. rw (p, q)) (λ q. rw (p, q))))
has-and (suc c) a b = rw (and-half a b) (has-and c (a / 2) (b / 2))

or-half : (a b : ℕ) → bit_or a b / 2 ≡ bit_or (a / 2) (b / 2)
or-half a b = let e = or_step a b in omega arith

or-odd : (a b : ℕ) → bit_or a b % 2 ≡ max (a % 2) (b % 2)
or-odd a b = let e = or_step a b in omega arith

pub has-or : (c a b : ℕ) → has c (bit_or a b) ≡ (has c a || has c b)
unfolding has
has-or zero a b =
    rw (or-odd a b) (by_bit a (λ p. by_bit b (λ q. rw (p, q)) (λ q. rw (p, q))) (λ p. by_bit b (λ q. rw (p, q)) (λ q. rw (p, q))))
has-or (suc c) a b = rw (or-half a b) (has-or c (a / 2) (b / 2))

less-half : (a b : ℕ) → (a - bit_and a b) / 2 ≡ a / 2 - bit_and (a / 2) (b / 2)
less-half a b =
    let e = and_step a b in
    let l = and_le_l (a / 2) (b / 2) in
    omega arith

less-odd : (a b : ℕ) → (a - bit_and a b) % 2 ≡ a % 2 - min (a % 2) (b % 2)
less-odd a b =
    let e = and_step a b in
    let l = and_le_l (a / 2) (b / 2) in
    omega arith

-- the bits of a that b does not have
pub has-less : (c a b : ℕ) → has c (a - bit_and a b) ≡ (has c a && not (has c b))
unfolding has
has-less zero a b =
    rw (less-odd a b) (by_bit a (λ p. by_bit b (λ q. rw (p, q)) (λ q. rw (p, q))) (λ p. by_bit b (λ q. rw (p, q)) (λ q. rw (p, q))))
has-less (suc c) a b = rw (less-half a b) (has-less c (a / 2) (b / 2))

-- ── single words ──

pub has-zero : (c : ℕ) → has c 0 ≡ false
unfolding has
has-zero zero = refl
has-zero (suc c) = has-zero c

-- a word below 2 ^ n has no bit from n on
pub has-high : (c n m : ℕ) → m < 2 ^ n → n ≤ c → has c m ≡ false
unfolding has
has-high c zero m l h = let e : m ≡ 0 = omega arith in rw e (has-zero c)
has-high zero (suc n) m l h = absurd (omega arith)
has-high (suc c) (suc n) m l h = let e = pow-suc 2 n in has-high c n (m / 2) (omega arith) (omega arith)

-- a power of two has its own bit and no other
pub has-power : (c d : ℕ) → has c (2 ^ d) ≡ eqb d c
unfolding has
has-power zero zero = refl
has-power zero (suc d) = let e = pow-suc 2 d in let even : 2 ^ suc d % 2 ≡ 0 = omega arith in rw even (sym (eqb-suc-zero d))
has-power (suc c) zero = has-zero c ∙ sym (eqb-zero-suc c)
has-power (suc c) (suc d) = let e = pow-suc 2 d in let half : 2 ^ suc d / 2 ≡ 2 ^ d = omega arith in rw half (has-power c d ∙ sym (eqb-suc-suc d c))

pub has_one : (c : ℕ) → has c (2 ^ c) ≡ true
has_one c = has-power c c ∙ eq-eqb c c refl

pub has_other : (c d : ℕ) → has c (2 ^ d) ≡ true → c ≡ d
has_other c d h = sym (eqb-true d c (sym (has-power c d) ∙ h))

-- a word of ones has all bits below its length
pub has-ones : (c n : ℕ) → c < n → has c (2 ^ n - 1) ≡ true
unfolding has
has-ones c zero l = absurd (omega arith)
has-ones zero (suc n) l = let e = pow-suc 2 n in let p = pow_pos n in let odd : (2 ^ suc n - 1) % 2 ≡ 1 = omega arith in rw odd
has-ones (suc c) (suc n) l = let e = pow-suc 2 n in let p = pow_pos n in let half : (2 ^ suc n - 1) / 2 ≡ 2 ^ n - 1 = omega arith in rw half (has-ones c n (omega arith))

-- ── the complement ──

pub has-complement : (c n m : ℕ) → c < n → m < 2 ^ n → has c (2 ^ n - 1 - m) ≡ not (has c m)
unfolding has
has-complement c zero m l h = absurd (omega arith)
has-complement zero (suc n) m l h =
    let e = pow-suc 2 n in
    let odd : (2 ^ suc n - 1 - m) % 2 ≡ 1 - m % 2 = omega arith in
    rw odd (by_bit m (λ p. rw p) (λ p. rw p))
has-complement (suc c) (suc n) m l h =
    let e = pow-suc 2 n in
    let half : (2 ^ suc n - 1 - m) / 2 ≡ 2 ^ n - 1 - m / 2 = omega arith in
    rw half (has-complement c n (m / 2) (omega arith) (omega arith))

-- ── a bit is put or taken off, by a sum or a difference ──

odd-of : (m : ℕ) → eqb (m % 2) 1 ≡ true → m % 2 ≡ 1
odd-of m e = eqb-true (m % 2) 1 e

even-of : (m : ℕ) → eqb (m % 2) 1 ≡ false → m % 2 ≡ 0
even-of m e = by_bit m (λ z. z) (λ o. absurd (eqb-false (m % 2) 1 e o))

-- a set bit d is taken off
pub has-taken : (d c m : ℕ) → has d m ≡ true → (2 ^ d ≤ m) × (has c (m - 2 ^ d) ≡ (has c m && not (eqb c d)))
unfolding has
has-taken zero zero m h =
    let o = odd-of m h in
    let z : (m - 1) % 2 ≡ 0 = omega arith in
    (omega arith, rw (z, o))
has-taken zero (suc c) m h =
    let o = odd-of m h in
    let e : (m - 1) / 2 ≡ m / 2 = omega arith in
    (omega arith, rw (e, eqb-suc-zero c) (sym (and-true (has c (m / 2)))))
has-taken (suc d) zero m h =
    let p = pow-suc 2 d in
    let l = (has-taken d zero (m / 2) h).0 in
    let e : (m - 2 ^ suc d) % 2 ≡ m % 2 = omega arith in
    (omega arith, rw (e, eqb-zero-suc d) (sym (and-true (eqb (m % 2) 1))))
has-taken (suc d) (suc c) m h =
    let p = pow-suc 2 d in
    let (l, i) = has-taken d c (m / 2) h in
    let e : (m - 2 ^ suc d) / 2 ≡ m / 2 - 2 ^ d = omega arith in
    (omega arith, rw (e, eqb-suc-suc c d) i)

-- an unset bit d is put
pub has-put : (d c m : ℕ) → has d m ≡ false → has c (m + 2 ^ d) ≡ (has c m || eqb c d)
unfolding has
has-put zero zero m h =
    let z = even-of m h in
    let o : (m + 1) % 2 ≡ 1 = omega arith in
    rw (z, o)
has-put zero (suc c) m h =
    let z = even-of m h in
    let e : (m + 1) / 2 ≡ m / 2 = omega arith in
    rw (e, eqb-suc-zero c) (sym (or-false (has c (m / 2))))
has-put (suc d) zero m h =
    let p = pow-suc 2 d in
    let e : (m + 2 ^ suc d) % 2 ≡ m % 2 = omega arith in
    rw (e, eqb-zero-suc d) (sym (or-false (eqb (m % 2) 1)))
has-put (suc d) (suc c) m h =
    let p = pow-suc 2 d in
    let e : (m + 2 ^ suc d) / 2 ≡ m / 2 + 2 ^ d = omega arith in
    rw (e, eqb-suc-suc c d) (has-put d c (m / 2) h)

-- a word below 2 ^ n stays below it, with a bit below n
pub put-below : (d n m : ℕ) → has d m ≡ false → d < n → m < 2 ^ n → m + 2 ^ d < 2 ^ n
unfolding has
put-below d zero m h l b = absurd (omega arith)
put-below zero (suc n) m h l b = let p = pow-suc 2 n in let z = even-of m h in omega arith
put-below (suc d) (suc n) m h l b =
    let p = pow-suc 2 n in
    let q = pow-suc 2 d in
    let i = put-below d n (m / 2) h (omega arith) (omega arith) in
    omega arith

-- ── a bit is replaced ──

-- bit c of the word is b, whatever it was
unfoldable pub replace_bit : ℕ → ℕ → ℕ → ℕ
replace_bit c b m = bit_or (m - bit_and m (2 ^ c)) (b * 2 ^ c)

has-shifted : (d c b : ℕ) → b < 2 → has d (b * 2 ^ c) ≡ (eqb b 1 && eqb c d)
has-shifted d c zero l = rw (zero-mul (2 ^ c)) (has-zero d)
has-shifted d c (suc zero) l = rw (one-mul (2 ^ c)) (has-power d c)
has-shifted d c (suc (suc b)) l = absurd (omega arith)

module _ (c b m : ℕ) (small : b < 2) where
  replaced-bits : (d : ℕ) → has d (replace_bit c b m) ≡ ((has d m && not (eqb c d)) || (eqb b 1 && eqb c d))
  unfolding replace_bit
  replaced-bits d = has-or d (m - bit_and m (2 ^ c)) (b * 2 ^ c) ∙ rw (has-less d m (2 ^ c), has-shifted d c b small, has-power d c)

  pub replaced-here : has c (replace_bit c b m) ≡ eqb b 1
  replaced-here = replaced-bits c ∙ rw (eq-eqb c c refl, and-false (has c m), and-true (eqb b 1))

  pub replaced-elsewhere : (d : ℕ) → (c ≡ d → ⊥) → has d (replace_bit c b m) ≡ has d m
  replaced-elsewhere d other = replaced-bits d ∙ rw (ne_eqb c d other, and-true (has d m), and-false (eqb b 1)) (or-false (has d m))

-- ── words with the same bits ──

same-below : (n a b : ℕ) → a < 2 ^ n → b < 2 ^ n → ((c : ℕ) → has c a ≡ has c b) → a ≡ b
unfolding has
same-below zero a b l m h = omega arith
same-below (suc n) a b l m h =
    let e = pow-suc 2 n in
    let r = same-below n (a / 2) (b / 2) (omega arith) (omega arith) (λ c. h (suc c)) in
    let p = same-parity (h zero) in
    omega arith
  where
    same-parity : eqb (a % 2) 1 ≡ eqb (b % 2) 1 → a % 2 ≡ b % 2
    same-parity s =
        by_bit a
        (λ p. by_bit b (λ q. p ∙ sym q) (λ q. absurd (eqb-false (b % 2) 1 (sym s ∙ rw p) q)))
        (λ p. by_bit b (λ q. absurd (eqb-false (a % 2) 1 (s ∙ rw q) p)) (λ q. p ∙ sym q))

pub same_bits : (a b : ℕ) → ((c : ℕ) → has c a ≡ has c b) → a ≡ b
same_bits a b h = same-below (a + b) a b (below_power (a + b) a (omega arith)) (below_power (a + b) b (omega arith)) h
  where
    below_power : (n x : ℕ) → x ≤ n → x < 2 ^ n
    below_power zero x l = omega arith
    below_power (suc n) x l = let e = pow-suc 2 n in let p = pow_pos n in let i = below_power n (x - 1) (omega arith) in omega arith

-- ── the word with given bits ──

packed_half : (k : ℕ) (bit : ℕ → Bool) → packed (suc k) bit / 2 ≡ packed k (λ (c : ℕ). bit (suc c))
unfolding packed
packed_half k bit = by_first (bit 0)
  where
    by_first : (b : Bool) → (elim b [ true ↦ 1 | false ↦ 0 ] + 2 * packed k (λ (c : ℕ). bit (suc c))) / 2 ≡ packed k (λ (c : ℕ). bit (suc c))
    by_first true = omega arith
    by_first false = omega arith

packed-first : (k : ℕ) (bit : ℕ → Bool) → eqb (packed (suc k) bit % 2) 1 ≡ bit 0
unfolding packed
packed-first k bit = by_first (bit 0)
  where
    by_first : (b : Bool) → eqb ((elim b [ true ↦ 1 | false ↦ 0 ] + 2 * packed k (λ (c : ℕ). bit (suc c))) % 2) 1 ≡ b
    by_first true = let odd : (1 + 2 * packed k (λ (c : ℕ). bit (suc c))) % 2 ≡ 1 = omega arith in rw odd
    by_first false = let even : (0 + 2 * packed k (λ (c : ℕ). bit (suc c))) % 2 ≡ 0 = omega arith in rw even

pub has-packed : (k : ℕ) (bit : ℕ → Bool) (c : ℕ) → c < k → has c (packed k bit) ≡ bit c
unfolding has
has-packed zero bit c l = absurd (omega arith)
has-packed (suc k) bit zero l = packed-first k bit
has-packed (suc k) bit (suc c) l = rw (packed_half k bit) (has-packed k (λ (d : ℕ). bit (suc d)) c (omega arith))

pub packed-below : (k : ℕ) (bit : ℕ → Bool) → packed k bit < 2 ^ k
unfolding packed
packed-below zero bit = omega arith
packed-below (suc k) bit =
    let e = pow-suc 2 k in
    let h = packed_half k bit in
    let i = packed-below k (λ (c : ℕ). bit (suc c)) in
    omega arith

-- no other word below 2 ^ k has them
pub packed-only : (k m : ℕ) (bit : ℕ → Bool) → m < 2 ^ k → ((c : ℕ) → c < k → has c m ≡ bit c) → m ≡ packed k bit
packed-only k m bit l h =
    same_bits m (packed k bit)
    (λ c. ⊎_elim
    (λ e. let b : k ≤ c = omega arith in has-high c k m l b ∙ sym (has-high c k (packed k bit) (packed-below k bit) b))
    (λ e. let b : c < k = omega arith in h c b ∙ sym (has-packed k bit c b))
    (eq-zero-or-pos (k - c)))

-- ── in the code's terms ──

-- the bits of a word that is shifted
pub has-over : (n c m : ℕ) → has c (m / 2 ^ n) ≡ has (n + c) m
unfolding has
has-over zero c m = let e : 0 + c ≡ c = omega arith in rw (div-one m, e)
has-over (suc n) c m =
    let e : suc n + c ≡ suc (n + c) = omega arith in
    rw e (ap (has c) (ap (λ (x : ℕ). m / x) (pow-suc 2 n ∙ mul_comm (2 ^ n) 2) ∙ sym (div-div-eq-div-mul m 2 (2 ^ n))) ∙ has-over n c (m / 2))

-- the bit by a shift
pub has-shift : (c m : ℕ) → has c m ≡ eqb (m / 2 ^ c % 2) 1
unfolding has
has-shift c m = sym (has-over c 0 m ∙ rw (add-zero c))

-- a bit shifted, in a word of any width
pub bit_shifted : (width b c : ℕ) → b < 2 → c < width → (b * 2 ^ c) % 2 ^ width ≡ b * 2 ^ c
bit_shifted width b c l h = shl_exact {a = b} 1 c width (omega arith) (omega arith)

pub one_shifted : (width c : ℕ) → c < width → (1 * 2 ^ c) % 2 ^ width ≡ 2 ^ c
one_shifted width c l = bit_shifted width 1 c (lit< tt) l ∙ one-mul (2 ^ c)
