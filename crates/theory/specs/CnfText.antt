-- Numbers and literals of DIMACS CNF text: the reader takes from the front what is written, and nothing else. Assumes nothing.
use Rattle.std.specs.Prelude.{ℕ, zero, suc, ◌+◌, ◌-◌, ◌*◌, ◌/◌, ◌%◌, ◌^◌, ◌≤◌, ◌<◌, ◌≡◌, Bool, true, false, ◌&&◌, eqb, leb, ltb}
use Rattle.std.proofs.Math.Path.{refl, ap}
use Rattle.std.proofs.Common.{sym, subst, ◌∙◌, arith, pow-suc}
use mathlib.Core.List.{List, [], ◌∷◌, ◌++◌, append_assoc}
use Rattle.std.proofs.Math.Nat.{pow-le-pow_right}
use borrow.Author.Tests.{leb-true, eqb-true, eqb-false, ltb-true, ltb-false, le-leb, lt-leb, lt-ltb, le-ltb, eq-eqb, ne_eqb}
use Rattle.definitions.specs.Sheet.{Number, is_digit}
use Rattle.definitions.specs.Questions.{yes, ◌>>=◌, ◌>>◌, ask}
use Rattle.definitions.specs.Listing.{decimals, signed_decimals}
use Rattle.definitions.specs.Dimacs.{literal_text, Front, front, expect, expects, more_digits, decimal_at, minus_at, literal_at, starts_with}
use Rattle.theory.specs.Tests.{by-test, and_left, and_right, and_intro}
use Rattle.theory.specs.AskedLaws.{no≢yes, yes-injective, bind-yes, ask-yes, yes-bind, yes-ask}

-- ── digits ──

-- by the byte
pub digit_low : (b : ℕ) → b < 48 → is_digit b ≡ false
unfolding is_digit
digit_low b h = cc (lt-leb 48 b h)

pub digit-high : (b : ℕ) → 57 < b → is_digit b ≡ false
unfolding is_digit
digit-high b h = let low : 48 ≤ b = omega arith in cc (le-leb 48 b low, lt-leb b 57 h)

pub digit-among : (b : ℕ) → 48 ≤ b → b ≤ 57 → is_digit b ≡ true
unfolding is_digit
digit-among b low high = cc (le-leb 48 b low, le-leb b 57 high)

-- a digit's byte is one
pub digit-is : (d : ℕ) → d < 10 → is_digit (48 + d) ≡ true
unfolding is_digit
digit-is d h = and_intro (leb 48 (48 + d)) (leb (48 + d) 57) (le-leb 48 (48 + d) (omega arith)) (le-leb (48 + d) 57 (omega arith))

is_digit_lem : (b : ℕ) → is_digit b ≡ true → (b ≡ 48 + (b - 48)) × (b - 48 < 10)
unfolding is_digit
is_digit_lem b e =
    let low = leb-true 48 b (and_left (leb 48 b) (leb b 57) e) in
    let high = leb-true b 57 (and_right (leb 48 b) (leb b 57) e) in
    (omega arith, omega arith)

-- one digit more at the end
decimals-more : (w n d : ℕ) → 1 ≤ n → d < 10 → decimals (suc w) (n * 10 + d) ≡ decimals w n ++ ((48 + d) ∷ [])
unfolding decimals
decimals-more w n d h l =
    let long = le-ltb (n * 10 + d) 10 (omega arith) in
    let first : (n * 10 + d) / 10 ≡ n = omega arith in
    let last : (n * 10 + d) % 10 ≡ d = omega arith in
    cc

-- room for more digits changes nothing
decimals-wide : (w k n : ℕ) → n < 10 ^ suc w → decimals (suc w + k) n ≡ decimals (suc w) n
unfolding decimals
decimals-wide zero k n h =
    let wider : suc zero + k ≡ suc k = omega arith in
    let short = lt-ltb n 10 (omega arith) in
    cc
decimals-wide (suc w) k n h =
    let wider : suc (suc w) + k ≡ suc (suc w + k) = omega arith in
    let rest = decimals-wide w k (n / 10) (omega (arith, pow-suc 10 (suc w))) in
    by-test (ltb n 10) (λ e. cc) (λ e. cc)

-- ── a number ──

more-digit : (k n d : ℕ) (bs : List ℕ) → d < 10 → more_digits (suc k) n ((48 + d) ∷ bs) ≡ more_digits k (n * 10 + d) bs
unfolding more_digits
more-digit k n d bs h =
    let digit = digit-is d h in
    let value : 48 + d - 48 ≡ d = omega arith in
    cc

more-stops : (k n c : ℕ) (bs : List ℕ) → is_digit c ≡ false → more_digits k n (c ∷ bs) ≡ front n (c ∷ bs)
unfolding more_digits
more-stops zero n c bs h = refl
more-stops (suc k) n c bs h = cc

first-digit : (q d : ℕ) (bs : List ℕ) → 1 ≤ d → d < 10 → decimal_at q ((48 + d) ∷ bs) ≡ yes (more_digits 2 d bs)
unfolding decimal_at ◌>>◌ ask
first-digit q d bs l h =
    let digit = digit-is d h in
    let value : 48 + d - 48 ≡ d = omega arith in
    let nonzero = ne_eqb (48 + d) 48 (λ e. omega arith) in
    cc

-- numbers of one, two and three digits
units-text : (w n : ℕ) → n < 10 → decimals (suc w) n ≡ (48 + n) ∷ []
unfolding decimals
units-text w n h = let short = lt-ltb n 10 h in cc

tens-text : (n : ℕ) → 10 ≤ n → n < 100 → decimals 3 n ≡ (48 + n / 10) ∷ (48 + n % 10) ∷ []
unfolding decimals
tens-text n l h =
    let long = le-ltb n 10 l in
    let first = lt-ltb (n / 10) 10 (omega arith) in
    cc

hundreds-text : (n : ℕ) → 100 ≤ n → n < 1000 → decimals 3 n ≡ (48 + n / 10 / 10) ∷ (48 + n / 10 % 10) ∷ (48 + n % 10) ∷ []
unfolding decimals
hundreds-text n l h =
    let long = le-ltb n 10 (omega arith) in
    let next = le-ltb (n / 10) 10 (omega arith) in
    let first = lt-ltb (n / 10 / 10) 10 (omega arith) in
    cc

module _ (q c : ℕ) (bs : List ℕ) (stop : is_digit c ≡ false) where
  -- these digits, up to the first byte that is none, are read as the number
  abbrev ReadAs : ℕ → List ℕ → Type 0
  ReadAs n digits = decimal_at q (digits ++ (c ∷ bs)) ≡ yes (front n (c ∷ bs))

  units-read : (n : ℕ) → 1 ≤ n → n < 10 → ReadAs n (decimals 3 n)
  units-read n l h = subst (ReadAs n) (sym (units-text 2 n h)) (first-digit q n (c ∷ bs) l h ∙ ap yes (more-stops 2 n c bs stop))

  tens-read : (n : ℕ) → 10 ≤ n → n < 100 → ReadAs n (decimals 3 n)
  tens-read n l h =
      let all = n / 10 * 10 + n % 10 in
      let value : all ≡ n = omega arith in
      subst (ReadAs n) (sym (tens-text n l h)) (
      first-digit q (n / 10) ((48 + n % 10) ∷ c ∷ bs) (omega arith) (omega arith)
      ∙ ap yes (more-digit 1 (n / 10) (n % 10) (c ∷ bs) (omega arith)
      ∙ more-stops 1 all c bs stop
      ∙ ap (λ x. front x (c ∷ bs)) value))

  hundreds-read : (n : ℕ) → 100 ≤ n → n < 1000 → ReadAs n (decimals 3 n)
  hundreds-read n l h =
      let above = n / 10 / 10 * 10 + n / 10 % 10 in
      let all = above * 10 + n % 10 in
      let value : all ≡ n = omega arith in
      subst (ReadAs n) (sym (hundreds-text n l h)) (
      first-digit q (n / 10 / 10) ((48 + n / 10 % 10) ∷ (48 + n % 10) ∷ c ∷ bs) (omega arith) (omega arith)
      ∙ ap yes (more-digit 1 (n / 10 / 10) (n / 10 % 10) ((48 + n % 10) ∷ c ∷ bs) (omega arith)
      ∙ more-digit 0 above (n % 10) (c ∷ bs) (omega arith)
      ∙ more-stops 0 all c bs stop
      ∙ ap (λ x. front x (c ∷ bs)) value))

-- a number of at most three digits is read up to the first byte that is none
pub decimal-read : (q n c : ℕ) (bs : List ℕ) → n < 1000 → is_digit c ≡ false
    → decimal_at q (decimals 3 n ++ (c ∷ bs)) ≡ yes (front n (c ∷ bs))
decimal-read q zero c bs h stop = unfold decimals decimal_at ◌>>◌ ask is_digit in refl
decimal-read q (suc m) c bs h stop =
    by-test (ltb (suc m) 10)
    (λ e. units-read q c bs stop (suc m) (omega arith) (ltb-true (suc m) 10 e))
    (λ e. by-test (ltb (suc m) 100)
    (λ f. tens-read q c bs stop (suc m) (ltb-false (suc m) 10 e) (ltb-true (suc m) 100 f))
    (λ f. hundreds-read q c bs stop (suc m) (ltb-false (suc m) 100 f) h))

-- the bytes begin with the number that is found, as it is written with at most so many digits
abbrev Spells : ℕ → List ℕ → Front ℕ → Type 0
Spells w bs f = (bs ≡ decimals w f.found ++ f.behind) × (f.found < 10 ^ w)

stays-spelt : (k w n : ℕ) (bs : List ℕ) → n < 10 ^ suc w → Spells (suc w + k) (decimals (suc w) n ++ bs) (front n bs)
stays-spelt k w n bs h =
    let wider = pow-le-pow_right {n = 10} (omega arith) {i = suc w} {j = suc w + k} (omega arith) in
    (ap (λ t. t ++ bs) (sym (decimals-wide w k n h)), omega (arith, h, wider))

more-exact : (k w n : ℕ) (bs : List ℕ) → 1 ≤ n → n < 10 ^ suc w → Spells (suc w + k) (decimals (suc w) n ++ bs) (more_digits k n bs)
unfolding more_digits
more-exact zero w n bs l h = stays-spelt zero w n bs h
more-exact (suc k) w n [] l h = stays-spelt (suc k) w n [] h
more-exact (suc k) w n (b ∷ bs) l h =
    by-test (is_digit b)
    (λ e.
    let (value, low) = is_digit_lem b e in
    let d = b - 48 in
    let next : more_digits (suc k) n (b ∷ bs) ≡ more_digits k (n * 10 + d) bs = cc in
    let moved : decimals (suc w) n ++ (b ∷ bs) ≡ decimals (suc (suc w)) (n * 10 + d) ++ bs
    = cc (decimals-more (suc w) n d l low, append_assoc (decimals (suc w) n) ((48 + d) ∷ []) bs) in
    let width : suc (suc w) + k ≡ suc w + suc k = omega arith in
    rw (next, moved) (rw width at (more-exact k (suc w) (n * 10 + d) bs (omega arith) (omega (arith, pow-suc 10 (suc w))))))
    (λ e. rw (e, more_digits) (stays-spelt (suc k) w n (b ∷ bs) h))

-- what is read of a number is what is written of it
decimal-exact : (q : ℕ) (bs : List ℕ) (f : Front ℕ) → decimal_at q bs ≡ yes f
    → (bs ≡ decimals 3 f.found ++ f.behind) × (f.found < 1000)
unfolding decimal_at
decimal-exact q [] f e = no≢yes e
decimal-exact q (b ∷ bs) f e =
    let (t, r) = ask-yes q (is_digit b) _ f e in
    let (value, low) = is_digit_lem b t in
    by-test (eqb b 48)
    (λ z. let its : front 0 bs ≡ f = cc in let zero-byte = eqb-true b 48 z in rw (← its) (unfold decimals in (cc, omega arith)))
    (λ z. let its : more_digits 2 (b - 48) bs ≡ f = cc in
    let nonzero = eqb-false b 48 z in
    let first : decimals 1 (b - 48) ≡ b ∷ [] = units-text 0 (b - 48) low ∙ ap (λ x. x ∷ []) (sym value) in
    rw (← its) (rw first at (more-exact 2 0 (b - 48) bs (omega arith) low)))

-- a number from 1 begins with a digit that isn't 0
pub begins : (w n : ℕ) → 1 ≤ n → n < 10 ^ suc w → (b : ℕ) × (bs : List ℕ) × (decimals (suc w) n ≡ b ∷ bs) × (48 < b)
unfolding decimals
begins zero n l h = (48 + n, [], units-text 0 n (omega arith), omega arith)
begins (suc w) n l h =
    by-test (ltb n 10)
    (λ e. (48 + n, [], units-text (suc w) n (ltb-true n 10 e), omega arith))
    (λ e. let (b, bs, is, low) = begins w (n / 10) (omega (arith, ltb-false n 10 e)) (omega (arith, pow-suc 10 (suc w))) in
    (b, bs ++ ((48 + n % 10) ∷ []), cc, low))

-- ── one byte, and several ──

expect-exact : (q b : ℕ) (bs rest : List ℕ) → expect q b bs ≡ yes rest → bs ≡ b ∷ rest
unfolding expect
expect-exact q b [] rest e = no≢yes e
expect-exact q b (x ∷ xs) rest e =
    let (t, r) = ask-yes q (eqb x b) _ rest e in
    let same = eqb-true x b t in
    let behind = yes-injective r in
    cc

pub expect-read : (q b : ℕ) (bs : List ℕ) → expect q b (b ∷ bs) ≡ yes bs
unfolding expect
expect-read q b bs = yes-ask q (eqb b b) (yes bs) bs (eq-eqb b b refl) refl

pub expects-exact : (q : ℕ) (these bs rest : List ℕ) → expects q these bs ≡ yes rest → bs ≡ these ++ rest
unfolding expects
expects-exact q [] bs rest e = yes-injective e
expects-exact q (b ∷ more) bs rest e =
    let (behind, first, r) = bind-yes (expect q b bs) (expects q more) rest e in
    cc (expect-exact q b bs behind first, expects-exact q more behind rest r)

pub expects-read : (q : ℕ) (these bs : List ℕ) → expects q these (these ++ bs) ≡ yes bs
unfolding expects
expects-read q [] bs = refl
expects-read q (b ∷ more) bs =
    yes-bind (expect q b (b ∷ (more ++ bs))) (expects q more) (more ++ bs) bs (expect-read q b (more ++ bs)) (expects-read q more bs)

-- a number and the byte behind it
pub decimal-then : (q b : ℕ) (bs : List ℕ) (f : Front ℕ) (rest : List ℕ) → decimal_at q bs ≡ yes f → expect q b f.behind ≡ yes rest
    → bs ≡ decimals 3 f.found ++ (b ∷ rest)
decimal-then q b bs f rest d x = (decimal-exact q bs f d).0 ∙ ap (λ z. decimals 3 f.found ++ z) (expect-exact q b f.behind rest x)

-- ── a literal ──

-- "in range"
abbrev pub InRange : ℕ → Number → Type 0
InRange atoms n = (1 ≤ n.size) × (n.size ≤ atoms)

literal-parts : (atoms : ℕ) (bs : List ℕ) (sign : Bool) (digits : List ℕ) (n : ℕ) (rest : List ℕ) → minus_at bs ≡ front sign digits
    → decimal_at 22 digits ≡ yes (front n (32 ∷ rest)) → 1 ≤ n → n ≤ atoms
    → literal_at atoms bs ≡ yes (front (record { negative = sign; size = n }) rest)
unfolding literal_at ◌>>=◌ ◌>>◌ ask
literal-parts atoms bs sign digits n rest m d l h =
    let low = le-leb 1 n l in
    let high = le-leb n atoms h in
    let blank = expect-read 22 32 rest in
    cc

-- the bytes of a literal, with those behind it
pub signed-text : (n : Number) (rest : List ℕ) → literal_text n ++ rest ≡ signed_decimals 3 n ++ (32 ∷ rest)
unfolding literal_text
signed-text n rest = append_assoc (signed_decimals 3 n) (32 ∷ []) rest

-- a sign, and then a digit that isn't 0
minus-read : (n : Number) (rest : List ℕ) → 1 ≤ n.size → n.size < 1000
    → minus_at (signed_decimals 3 n ++ rest) ≡ front n.negative (decimals 3 n.size ++ rest)
unfolding minus_at signed_decimals
minus-read n rest l h =
    by-test n.negative
    (λ e. cc)
    (λ e. let (b, bs, is, low) = begins 2 n.size l h in let other = ne_eqb b 45 (λ q. omega arith) in cc)

pub starts-read : (n : Number) (rest : List ℕ) → 1 ≤ n.size → n.size < 1000 → starts_with 48 (signed_decimals 3 n ++ rest) ≡ false
unfolding starts_with signed_decimals
starts-read n rest l h =
    by-test n.negative
    (λ e. cc)
    (λ e. let (b, bs, is, low) = begins 2 n.size l h in let other = ne_eqb b 48 (λ q. omega arith) in cc)

pub literal-text-read : (atoms : ℕ) (n : Number) (rest : List ℕ) → atoms < 1000 → InRange atoms n
    → literal_at atoms (literal_text n ++ rest) ≡ yes (front n rest)
unfolding is_digit
literal-text-read atoms n rest few (l, h) =
    ap (literal_at atoms) (signed-text n rest)
    ∙ literal-parts atoms (signed_decimals 3 n ++ (32 ∷ rest)) n.negative (decimals 3 n.size ++ (32 ∷ rest)) n.size rest
    (minus-read n (32 ∷ rest) l (omega arith))
    (decimal-read 22 n.size 32 rest (omega arith) refl) l h

minus-exact : (n : Number) (bs rest : List ℕ) → n.negative ≡ (minus_at bs).found → (minus_at bs).behind ≡ decimals 3 n.size ++ rest
    → bs ≡ signed_decimals 3 n ++ rest
unfolding minus_at signed_decimals
minus-exact n [] rest s d = cc
minus-exact n (b ∷ bs) rest s d = by-test (eqb b 45) (λ e. cc (eqb-true b 45 e)) (λ e. cc)

pub literal-exact : (atoms : ℕ) (bs : List ℕ) (f : Front Number) → literal_at atoms bs ≡ yes f
    → (bs ≡ literal_text f.found ++ f.behind) × InRange atoms f.found
unfolding literal_at
literal-exact atoms bs f e =
    let (n, d, r) = bind-yes (decimal_at 22 (minus_at bs).behind) _ f e in
    let (t, u) = ask-yes 22 (leb 1 n.found && leb n.found atoms) _ f r in
    let (rest, x, y) = bind-yes (expect 22 32 n.behind) _ f u in
    let its : Number = record { negative = (minus_at bs).found; size = n.found } in
    let is : front its rest ≡ f = yes-injective y in
    let digits = decimal-then 22 32 (minus_at bs).behind n rest d x in
    let low = leb-true 1 n.found (and_left (leb 1 n.found) (leb n.found atoms) t) in
    let high = leb-true n.found atoms (and_right (leb 1 n.found) (leb n.found atoms) t) in
    subst (λ (g : Front Number). (bs ≡ literal_text g.found ++ g.behind) × InRange atoms g.found) is
    (minus-exact its bs (32 ∷ rest) refl digits ∙ sym (signed-text its rest), (low, high))
