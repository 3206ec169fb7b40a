use Rattle.grammar.specs.Words.{meaning}
use Rattle.reading.specs.Reads.{store}
use Rattle.engine.proofs.Resuming.{expr_in, predicate_gives, throw_gives}
use Rattle.engine.proofs.resume.resume.Goals as goal

pub returns-in-Call-clause-resumed : goal.returns-in-Call-clause-resumed
returns-in-Call-clause-resumed g c = λ G p by sane w. c.after_call.ensures.resumed G _ by sane w (expr_in G (meaning c.args.grammar.now.words.now) c.args.frame.expression _ p c.in-Call.ensures)

pub returns-in-Sequence-clause-resumed : goal.returns-in-Sequence-clause-resumed
returns-in-Sequence-clause-resumed g c = λ G p by sane w. c.after_sequence.ensures G _ _ _ sane w (expr_in G (meaning c.args.grammar.now.words.now) c.args.frame.expression _ p c.in-Sequence.ensures)

pub returns-in-Choice-clause-resumed : goal.returns-in-Choice-clause-resumed
returns-in-Choice-clause-resumed g c = λ G p by sane w. c.after_choice.ensures G _ _ _ p sane w (expr_in G (meaning c.args.grammar.now.words.now) c.args.frame.expression _ p c.in-Choice.ensures)

pub returns-in-Repetition-clause-resumed : goal.returns-in-Repetition-clause-resumed
returns-in-Repetition-clause-resumed g c = λ G p by sane w. c.after_round.ensures G _ _ sane w (expr_in G (meaning c.args.grammar.now.words.now) c.args.frame.expression _ p c.in-Repetition.ensures)

pub returns-in-Predicate-clause-resumed : goal.returns-in-Predicate-clause-resumed
returns-in-Predicate-clause-resumed g c = rw c.predicate.ensures (λ G p by sane w. predicate_gives sane (store (g.M.Memory.table c.args.memory.now) c.args.fresh.now) w (expr_in G (meaning c.args.grammar.now.words.now) c.args.frame.expression _ p c.in-Predicate.ensures))

pub returns-in-Throw-clause-resumed : goal.returns-in-Throw-clause-resumed
returns-in-Throw-clause-resumed g c = rw c.recovery.ensures (λ G p by sane w. throw_gives sane (store (g.M.Memory.table c.args.memory.now) c.args.fresh.now) w (expr_in G (meaning c.args.grammar.now.words.now) c.args.frame.expression _ p c.in-Throw.ensures))
