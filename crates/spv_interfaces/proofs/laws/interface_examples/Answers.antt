use Rattle.spv_interfaces.proofs.Worked.{before, named, twice, unnamed}
use Rattle.spv_interfaces.proofs.laws.interface_examples.Goals as goal

pub returns-clause-unnamed : goal.returns-clause-unnamed
returns-clause-unnamed c = unnamed

pub returns-clause-named : goal.returns-clause-named
returns-clause-named c = named

pub returns-clause-twice : goal.returns-clause-twice
returns-clause-twice c = twice

pub returns-clause-before : goal.returns-clause-before
returns-clause-before c = before
