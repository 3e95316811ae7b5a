-- A code tells its atom: the symbol and the constants that the listing reads off a code are the atom's. Assumes nothing.
use Prim.Native.Nat.{ℕ, zero, suc, ◌+◌, ◌-◌, ◌<◌}
use Rattle.std.specs.Prelude.{◌≡◌, not, List, map, length, get_or}
use Rattle.std.proofs.Math.Path.{sym, ap}
use Rattle.std.proofs.Common.{◌∙◌, map-id}
use native.Mathlib.Omega.{arith}
use Rattle.std.proofs.Math.Seq.{take-length}
use Rattle.definitions.specs.Lists.{up_from}
use Rattle.definitions.specs.Words.{Atom, Literal}
use Rattle.definitions.specs.Sheet.{plus}
use Rattle.definitions.specs.Listing.{literal_numbers}
use Rattle.encoding.specs.Encoding.{place, code_of, atom_code}
use Rattle.encoding.specs.CodeLaws.{CodeLimits, AtomLimits, arity-at-most, argument-at}
use Rattle.encoding.specs.ArrayLaws.{front_at}
use Rattle.theory.specs.PlaceLaws.{get_elem-in}
use Rattle.listing.specs.Lines.{code_symbol, code_constant, constant_number, code_numbers}
use Rattle.theory.specs.PlaceLaws.{map-places}

module _ (constants : ℕ) (declared : List ℕ) (limits : CodeLimits constants declared) (a : Atom) (h : AtomLimits constants declared a) where
  place-range : (i : ℕ) → (place a.args i < 32) × (place a.args i + 1 ≡ get_or a.args i 1)
  unfolding place
  place-range i = omega (arith, argument-at constants declared limits a h i)

  symbol-told : code_symbol (atom_code a) ≡ a.symbol - 1
  unfolding code_symbol atom_code code_of
  symbol-told = omega (arith, h.declared, limits.symbols, (place-range 0).0, (place-range 1).0, (place-range 2).0)

  constant-told : (i : ℕ) → i < 3 → code_constant (atom_code a) i ≡ get_or a.args i 1
  unfolding code_constant atom_code code_of
  constant-told zero l = omega (arith, place-range 0, (place-range 1).0, (place-range 2).0)
  constant-told (suc zero) l = omega (arith, place-range 1, (place-range 2).0)
  constant-told (suc (suc zero)) l = omega (arith, place-range 2)
  constant-told (suc (suc (suc i))) l = absurd (omega arith)

  constants-told : map (constant_number (atom_code a)) (up_from 0 (length a.args)) ≡ map plus a.args
  unfolding constant_number
  constants-told =
      map-places (constant_number (atom_code a)) plus 0 a.args λ i c e.
      let few : i < 3 = omega (arith, (get_elem-in a.args i c e).0, h.args, arity-at-most constants declared limits (a.symbol - 1)) in
      let z : 0 + i ≡ i = omega arith in
      ap plus (ap (code_constant (atom_code a)) z ∙ constant-told i few ∙ front_at (λ x. x) a.args a.args (take-length a.args ∙ sym (map-id a.args)) i c 1 e)

-- a literal's numbers from the code of its atom, where the arities are the declared ones
pub code-literal : (constants : ℕ) (declared : List ℕ) → CodeLimits constants declared
    → (arities : List ℕ) → ((i : ℕ) → i < length declared → get_or arities i 0 ≡ get_or declared i 0)
    → (l : Literal) → AtomLimits constants declared l.atom → code_numbers arities (not l.positive) (atom_code l.atom) ≡ literal_numbers l
unfolding code_numbers literal_numbers
code-literal constants declared limits arities same l h =
    let symbol = symbol-told constants declared limits l.atom h in
    let size : code_symbol (atom_code l.atom) + 1 ≡ l.atom.symbol = omega (arith, h.symbol) in
    let arity : get_or arities (code_symbol (atom_code l.atom)) 0 ≡ length l.atom.args = ap (λ n. get_or arities n 0) symbol ∙ same (l.atom.symbol - 1) (omega (arith, h.symbol, h.declared)) ∙ sym h.args in
    rw (size, arity, constants-told constants declared limits l.atom h)
