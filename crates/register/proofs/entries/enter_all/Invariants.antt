use Rattle.std.proofs.Common.{◌≡◌, take}
use Rattle.register.specs.Rows.{middle}
use Rattle.register.specs.Entries.{Keeps, claims_of}
use Rattle.register.proofs.entries.enter_all.Given as goal

abbrev pub invariant-loop-entry : goal.invariant-loop-entry
invariant-loop-entry l =
    let rows = l.initial.register.rows in
    (l.register.rows.ghost_name ≡ rows.ghost_name) × Keeps rows.now (claims_of (middle rows.now) (take l.entry-index l.entries)) l.register.rows.now l.register.count
