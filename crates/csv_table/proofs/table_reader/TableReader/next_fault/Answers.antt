use Rattle.std.proofs.Common.{◌≡◌, ◌<◌, ◌∙◌, [], ap, arith, length, refl, rules}
use Rattle.csv_table.specs.ReadOn.ReadsOn.{here}
use Rattle.csv_table.specs.RowTable.{LeavesOut, Reads, Stops}
use Rattle.csv_table.proofs.ReadingOn.{and_left_out, and_read, and_stopped}
use Rattle.csv_table.proofs.table_reader.TableReader.next_fault.Goals as goal

pub returns-then-self-clause-none : goal.returns-then-self-clause-none
returns-then-self-clause-none g c =
    let none : c.args.self.now.left ≡ [] = rw (← c.self.view_is) (rw c.if-self.true refl) in
    (rw none (here (g.T.RowTable.items c.args.self.now.table) c.args.self.now.number []), none)

pub loop-self-init : goal.loop-self-init
loop-self-init g c = (
  c.if-self.false,
  c.self.invariant,
  rw (← c.self.view_is) (rw c.if-self.false (here (g.T.RowTable.items c.self.inside.table) c.self.inside.number c.self.inside.rows.left)),
  rw (← c.self.view_is) refl,
  rw (← c.self.view_is) refl,
)

pub returns-then-is_full-clause-fault : goal.returns-then-is_full-clause-fault
returns-then-is_full-clause-fault g c =
    let table = g.T.RowTable in
    let from = c.args.self.now in
    let its = table.rules (table.known from.table) in
    let at = c.loop-self.self-inside in
    let row = c.next.new.self in
    let kept = c.loop-self.invariant.4 in
    and_stopped (Reads its) (LeavesOut its) (Stops its) (table.items from.table) (table.items at.table) from.number at.number from.left at.rows.left row.left row.row _
    c.loop-self.invariant.2 (c.in_ok-next.ensures.found c.if-branch.true) (rw kept at c.too_many.ensures, rw kept at (c.is_full.ensures.0 c.if-is_full.true))

pub loop-self-preserved : goal.loop-self-preserved
loop-self-preserved g c =
    let table = g.T.RowTable in
    let from = c.args.self.now in
    let its = table.rules (table.known from.table) in
    let at = c.loop-self.self-inside in
    let row = c.next.new.self in
    let found = c.in_ok-next.ensures.found c.if-branch.true in
    let kept = c.loop-self.invariant.4 in
    let few : length (table.items at.table) < (table.rules (table.known at.table)).most = search rules in (
      c.loop-self.invariant.0,
      omega (arith, c.loop-self.invariant.1, ap length found),
      and_read (Reads its) (LeavesOut its) (Stops its) (table.items from.table) (table.items at.table) (table.items c.add_row.new.self) from.number at.number from.left at.rows.left row.left row.row
          c.loop-self.invariant.2 found
          (rw kept at few, rw kept at (rw c.in_default.is at c.in_ok-fault.ensures.row), rw kept at (rw c.in_default.is at c.in_ok-fault.ensures.added)),
      c.loop-self.invariant.3,
      c.add_row.ensures.known ∙ kept,
    )

pub returns-in-Some-clause-fault : goal.returns-in-Some-clause-fault
returns-in-Some-clause-fault g c =
    let table = g.T.RowTable in
    let from = c.args.self.now in
    let its = table.rules (table.known from.table) in
    let at = c.loop-self.self-inside in
    let row = c.next.new.self in
    let found = c.in_ok-next.ensures.found c.if-branch.true in
    let kept = c.loop-self.invariant.4 in
    let few : length (table.items at.table) < (table.rules (table.known at.table)).most = search rules in
    let refused = rw kept at (rw c.in-Some.is at c.in_ok-fault.ensures.fault) in
    let same = rw c.in-Some.is at c.in_ok-fault.ensures.same in
    rw (c.loop-self.invariant.0, same)
    (and_left_out (Reads its) (LeavesOut its) (Stops its) (table.items from.table) (table.items at.table) from.number at.number from.left at.rows.left row.left row.row c.in-Some.fault
    c.loop-self.invariant.2 found (rw kept at few, refused))
