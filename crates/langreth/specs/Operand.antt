-- The components of an operand, of the slices that are lent for them.
use Rattle.langreth.specs.declared.components.Operand.{Operand}
use Rattle.langreth.specs.Calls.{Components, components_of}

abbrev pub held : Operand → Components
held x = components_of x.retarded.now x.advanced.now x.lesser.now x.greater.now
