use Rattle.spv_grammar.proofs.numbers.Numbers.number.Goals as goal

pub returns-in-IdResultType : goal.returns-in-IdResultType
returns-in-IdResultType c = rw (← c.self.view_is, c.in-IdResultType.is) c.self.invariant.3

pub returns-in-LiteralInteger : goal.returns-in-LiteralInteger
returns-in-LiteralInteger c = rw (← c.self.view_is, c.in-LiteralInteger.is) c.self.invariant.4

pub returns-in-IdScope : goal.returns-in-IdScope
returns-in-IdScope c = rw (← c.self.view_is, c.in-IdScope.is) c.self.invariant.5
