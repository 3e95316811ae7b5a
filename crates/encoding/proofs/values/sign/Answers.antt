-- `values::sign` meets its contract, for each of the two remainders. Assumes nothing.
use Prim.Native.Nat.{◌%◌}
use mathlib.Core.Path.{refl}
use native.Mathlib.Omega.{arith}
use Rattle.encoding.proofs.ValueTests.{sign-is}
use Rattle.encoding.proofs.values.sign.Goals as goal

pub returns : goal.returns
returns c = sign-is c.args.w (c.args.w % 2) (omega arith) refl
