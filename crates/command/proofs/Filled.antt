-- A buffer that is filled from the front. Assumes nothing.
use Rattle.std.proofs.Common.{ℕ, ◌+◌, ◌≤◌, ◌≡◌, List, ◌++◌, sym, ap, ◌∙◌, length, take, length-take-le}
use lib.Seq.{take-append-add, take-append-le}
use borrow.Rule.Slice.PartMut.{put_mid, post_of}

-- a part that is read behind the front makes a longer front
pub filled-more : (a n k : ℕ) (old part : List ℕ) → a ≤ length old → n ≤ length part → take a old ++ take n part ≡ take (a + n) (put_mid a k old part)
filled-more a n k old part within fits =
    let front = take a old in
    let after = post_of a k old in
    ap (λ l. front ++ l) (sym (take-append-le n part after fits))
    ∙ sym (take-append-add front (part ++ after) n)
    ∙ ap (λ m. take (m + n) (put_mid a k old part)) (length-take-le a old within)
