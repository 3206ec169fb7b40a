use Rattle.std.proofs.Common.{ℕ, Ok, Err, sym, refl, subst, arith}
use Rattle.std.proofs.lemmas.Result.{err_from_is_err_and}
use Rattle.grammar.specs.declared.expr.Mode.TheVariants.{On}
use Rattle.grammar.specs.Words.{meaning}
use Rattle.reading.specs.Reads.{Setting, setting, Store, store, expression, Reads}
use Rattle.engine.proofs.Finding.{found_reads}
use Rattle.engine.proofs.read.root.Goals as goal

pub returns-in-Some-clause-reads : goal.returns-in-Some-clause-reads
returns-in-Some-clause-reads g c =
    let G : Setting = setting (meaning c.args.scene.now.grammar.now.words.now) g.T.Text.fits (g.T.Text.elements c.args.scene.now.text.now) c.args.scene.now.frames g.M.Memory.keeps (g.M.Memory.P c.args.memory.now) (g.M.Memory.Q c.args.memory.now) in
    found_reads G (store (g.M.Memory.table c.args.memory.now) c.args.fresh.now) 0 0 0 On c.in-Some.row c.found.result (sym c.in-Some.ensures.row)
    (c.found.ensures G 0 refl (sym c.args.scene.now.whole) (omega arith))

pub returns-in_err-reading-clause-reads : goal.returns-in_err-reading-clause-reads
returns-in_err-reading-clause-reads g c =
    let G : Setting = setting (meaning c.args.scene.now.grammar.now.words.now) g.T.Text.fits (g.T.Text.elements c.args.scene.now.text.now) c.args.scene.now.frames g.M.Memory.keeps (g.M.Memory.P c.args.memory.now) (g.M.Memory.Q c.args.memory.now) in
    let T : Store = store (g.M.Memory.table c.args.memory.now) c.args.fresh.now in
    let U : Store = store (g.M.Memory.table c.evaluate.new.memory) c.evaluate.new.fresh in
    let p = err_from_is_err_and c.from_residual.result c.from_residual.ensures.1 in
    rw (p.1, p.2) (Reads.body_refused (sym c.in_default.ensures.row)
    (subst (λ (e : ℕ). Reads G 0 T (expression e) 0 On (Err c.in_err-reading.field-0.0) U) c.body.ensures c.in_err-reading.ensures.reads))

pub returns-clause-reads : goal.returns-clause-reads
returns-clause-reads g c =
    let G : Setting = setting (meaning c.args.scene.now.grammar.now.words.now) g.T.Text.fits (g.T.Text.elements c.args.scene.now.text.now) c.args.scene.now.frames g.M.Memory.keeps (g.M.Memory.P c.args.memory.now) (g.M.Memory.Q c.args.memory.now) in
    let T : Store = store (g.M.Memory.table c.args.memory.now) c.args.fresh.now in
    let U : Store = store (g.M.Memory.table c.evaluate.new.memory) c.evaluate.new.fresh in
    Reads.body_gives (sym c.in_default.ensures.row)
    (subst (λ (e : ℕ). Reads G 0 T (expression e) 0 On (Ok c.in_ok-reading.reading) U) c.body.ensures c.in_ok-reading.ensures.reads)
    (c.keep_row.ensures.stores G (refl, sym c.in_ok-reading.ensures.places, sym c.in_ok-reading.ensures.rules))
