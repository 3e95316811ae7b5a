-- What a writer has written, and what it is still to write. Assumes nothing.
use Rattle.std.specs.Prelude.{ℕ, ◌+◌, ◌≤◌, ◌≡◌, refl, List, [], length}
use Rattle.std.proofs.Common.{ap, ◌∙◌, arith}
use Rattle.listing.specs.Puts.{Put, Putting, Parts, parts-room, put-none-yet, put-room, put_last, put_first, put_all, put-first-room}
use Rattle.listing.specs.declared.writer.Writer.{Writer}

-- the bytes have room behind those that are written
pub record HasRoom (w : Writer) (bytes : List ℕ) : Type 0 where
  pub fits : w.at + length bytes ≤ length w.room.now

-- the bytes are written behind those that were, in the same room
pub record Writes (w : Writer) (bytes : List ℕ) (w' : Writer) : Type 0 where
  pub same : w'.room.ghost_name ≡ w.room.ghost_name
  pub put : Put w.room.now w.at bytes w'.at w'.room.now

-- once the rest is written, all bytes are
pub record Writing (w : Writer) (bytes rest : List ℕ) (now : Writer) : Type 0 where
  pub same : now.room.ghost_name ≡ w.room.ghost_name
  pub putting : Putting w.room.now w.at bytes rest now.at now.room.now

pub writing-all : {w : Writer} {bytes rest : List ℕ} → rest ≡ bytes → Writing w bytes rest w
writing-all e = record { same = refl; putting = put-none-yet e }

module _ {w now : Writer} {bytes rest : List ℕ} (h : Writing w bytes rest now) where
  pub writing-room : HasRoom w bytes → HasRoom now rest
  writing-room r = record { fits = put-room h.putting r.fits }

  pub writing-last : {next : Writer} → Writes now rest next → Writes w bytes next
  writing-last g = record { same = g.same ∙ h.same; put = put_last h.putting g.put }

  -- nothing is left
  pub writing-none : rest ≡ [] → Writes w bytes now
  writing-none e = record { same = h.same; put = put_all h.putting e }

  module _ {first more : List ℕ} (parts : Parts rest first more) where
    pub writing-first-room : HasRoom w bytes → HasRoom now first
    writing-first-room r = record { fits = put-first-room h.putting parts r.fits }

    pub writing-first : {next : Writer} → Writes now first next → Writing w bytes more next
    writing-first g = record { same = g.same ∙ h.same; putting = put_first h.putting parts g.put }

-- ── bytes in two parts ──

module _ {w : Writer} {bytes first more : List ℕ} (parts : Parts bytes first more) where
  pub first-room : HasRoom w bytes → HasRoom w first
  first-room r = record { fits = parts-room parts w.at (length w.room.now) r.fits }

  module _ {w1 : Writer} (h : Writes w first w1) where
    begun : Writing w bytes more w1
    begun = writing-first (writing-all refl) parts h

    pub more-room : HasRoom w bytes → HasRoom w1 more
    more-room r = writing-room begun r

    pub both-written : {w2 : Writer} → Writes w1 more w2 → Writes w bytes w2
    both-written g = writing-last begun g

-- ── a room of which nothing is written yet ──

module _ {w : Writer} {room : List ℕ} (same : w.room.now ≡ room) (none : w.at ≡ 0) where
  pub new-room : (bytes : List ℕ) → length bytes ≤ length room → HasRoom w bytes
  new-room bytes fits = record { fits = omega (arith, ap length same) }

  pub new-put : {bytes : List ℕ} {w' : Writer} → Writes w bytes w' → Put room 0 bytes w'.at w'.room.now
  new-put h = rw (same, none) at h.put
