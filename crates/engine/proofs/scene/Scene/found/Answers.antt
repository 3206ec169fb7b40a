use Rattle.engine.proofs.Finding.{found_unfit, found_deep, found_stands}
use Rattle.engine.proofs.scene.Scene.found.Goals as goal

pub returns-then-not-may_stand : goal.returns-then-not-may_stand
returns-then-not-may_stand g c = λ G h p q room. found_unfit G h c.args.left c.args.at.rule c.args.at.place c.args.at.mode c.args.row c.told-reading.result c.may_stand.result room c.told-reading.ensures (c.may_stand.ensures G p q) c.if-not-may_stand.true

pub returns-then-reading-left : goal.returns-then-reading-left
returns-then-reading-left g c = λ G h p q room. found_deep G h c.args.left c.args.at.rule c.args.at.place c.args.at.mode c.args.row c.told-reading.result c.may_stand.result room c.told-reading.ensures (c.may_stand.ensures G p q) c.if-not-may_stand.false c.if-reading-left.true

pub returns : goal.returns
returns g c = λ G h p q room. found_stands G h c.args.left c.args.at.rule c.args.at.place c.args.at.mode c.args.row c.told-reading.result c.may_stand.result room c.told-reading.ensures (c.may_stand.ensures G p q) c.if-not-may_stand.false c.if-reading-left.false
