use Rattle.std.proofs.Common.{ℕ, ◌*◌, ◌<◌, true, sym, subst, arith, rules}
use Rattle.memo.specs.Tables.{Shifts}
use Rattle.memo.specs.Layout.{slot_row, rows, After}
use Rattle.memo.proofs.Tabled.{shifts_at}
use Rattle.memo.proofs.Pass.{passes, turn_below}
use Rattle.memo.proofs.whole.WholeMemoryMemory.shift.Goals as goal

pub loop-t-preserved : goal.loop-t-preserved
loop-t-preserved c =
    let s = c.args.self.now in
    let w = 2 * s.rules in
    let cur = c.loop-t.self.words.now in
    let x = c.after-row.result in
    let inv = c.loop-t.invariant in
    let some : 0 < w = search rules in
    let after : After (slot_row cur) w s.places c.args.p c.args.k c.args.m c.turn-s.result x =
    subst (λ (q : ℕ). After (slot_row cur) (2 * q) s.places c.args.p c.args.k c.args.m c.turn-s.result x) inv.2
    (subst (λ (n : ℕ). After (slot_row cur) (2 * c.loop-t.self.rules) n c.args.p c.args.k c.args.m c.turn-s.result x) inv.1 c.after-row.ensures) in (
      passes w s.places c.args.p c.args.k c.args.m some s.words.now c.loop-t.t c.turn-s.result cur c.write.new.words x
          (omega arith) c.turn-s.ensures inv.0 after c.write.ensures,
      inv.1,
      inv.2,
      inv.3,
    )

pub returns-clause-shifts : goal.returns-clause-shifts
returns-clause-shifts c =
    let s = c.args.self.now in
    let ws = s.words.now in
    let vs = c.loop-t.self.words.now in
    let inv = c.loop-t.invariant in
    let done = shifts_at ws vs s.places s.rules c.args.p c.args.k c.args.m
    (λ u h. inv.0.done u (omega arith) (omega (arith, turn_below c.args.k c.args.m (2 * s.rules * s.places) u (omega arith)))) in
    subst (λ (q : ℕ). Shifts true s.places c.args.p c.args.k c.args.m (rows ws s.places s.rules) (rows vs c.loop-t.self.places q)) (sym inv.2)
    (subst (λ (n : ℕ). Shifts true s.places c.args.p c.args.k c.args.m (rows ws s.places s.rules) (rows vs n s.rules)) (sym inv.1) done)
