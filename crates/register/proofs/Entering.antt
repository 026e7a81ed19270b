-- A register after an entry. Assumes nothing.
use Rattle.std.proofs.Common.{◌≡◌, ℕ, ◌<◌, ◌≤◌, List, length, Some, None, Ok, Err, Option, Result, ap, ◌∙◌, arith}
use Rattle.std.proofs.lemmas.List.{length-set, length_push, set_past}
use Rattle.std.proofs.lemmas.Bool.{lt-ltb, le-ltb}
use Rattle.register.specs.Rows.{middle, AddedTo, ChangedIn}
use Rattle.register.specs.Entries.{Keeps, entered, Done}
use Rattle.register.specs.declared.row.Moved.{Moved}
use Rattle.register.specs.declared.rows.Register.{Register}
use Rattle.register.specs.declared.rows.Unfit.{Unfit}
use Rattle.register.specs.declared.rows.Unfit.TheVariants.{NotThere, OutOfOrder}
use Rattle.register.specs.declared.entries.Entry.{Entry}
use Rattle.register.specs.declared.entries.Entry.TheVariants.{Add, Change}
use Rattle.register.proofs.Keeping.{adds, changes, never_out_of_order, kept_middle}

module _ (ws cs : List ℕ) (old new : Register) (k : Keeps ws cs old.rows.now old.count) where
  -- the same, with the register written out
  room : length cs ≤ middle ws
  room = omega (arith, k.room, k.count)

  even : middle old.rows.now ≡ middle ws
  even = ap middle k.words ∙ kept_middle ws cs room

  added : (c : ℕ) (o : Option ℕ) → AddedTo c old new o → Keeps ws (entered (middle ws) cs (Add c)) new.rows.now new.count
  added c (Some at) a =
      let less : length cs < middle ws = omega (arith, a.added.room, even, k.count) in
      let words = adds c at ws cs new.rows.now room (rw (k.words, k.count) at a.added) in
      rw (lt-ltb (length cs) (middle ws) less)
      record { count = omega (arith, a.count, length_push cs c); room = omega (arith, a.count); words = words }
  added c None a = rw (le-ltb (length cs) (middle ws) (omega (arith, even)), a.added.1, a.count) k

  changed : (i c : ℕ) (r : Result Moved Unfit) → ChangedIn i c old new r → Keeps ws (entered (middle ws) cs (Change i c)) new.rows.now new.count
  changed i c (Ok m) h =
      let words = changes i c m.from m.to ws cs new.rows.now room (rw (k.words, k.count) at h.changed) in
      record { count = omega (arith, h.count, length-set cs i c); room = omega (arith, h.count, k.room); words = words }
  changed i c (Err NotThere) h =
      rw (set_past cs i c (omega (arith, even, h.changed.0)), h.changed.1, h.count) k
  changed i c (Err OutOfOrder) h =
      absurd (never_out_of_order i ws cs room (rw (k.words, k.count) at h.changed.0))

  pub enters : (e : Entry) → Done e old new → (new.rows.ghost_name ≡ old.rows.ghost_name) × Keeps ws (entered (middle ws) cs e) new.rows.now new.count
  enters (Add c) d = (d.1.lent, added c d.0 d.1)
  enters (Change i c) d = (d.1.lent, changed i c d.0 d.1)
