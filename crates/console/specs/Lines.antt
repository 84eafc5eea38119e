-- What a program prints of a fault.
use Rattle.std.specs.Prelude.{None, Option}
use Rattle.records.specs.declared.fault.FaultLine.{FaultLine}
use Rattle.records.specs.Lines.{line_of as read_line_of}
use Rattle.console.specs.declared.fault.ProgramFault.{ProgramFault}
use Rattle.console.specs.declared.fault.ProgramFault.TheVariants.{Read, Memory, Unreadable}

-- a reading fault keeps its line
abbrev pub line_of : ProgramFault → Option FaultLine
line_of (Read e) = read_line_of e
line_of Memory = None
line_of Unreadable = None
