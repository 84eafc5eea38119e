-- The numbers and layers that refusals go by, and what is printed of one.
use Rattle.std.specs.Prelude.{ℕ, List, ◌++◌, Some, None, codes, decimal, Option}
use Rattle.records.specs.declared.fault.Refusal.{Refusal}
use Rattle.records.specs.declared.fault.Refusal.TheVariants.{Form, Place, Range, Repeated, Limit}
use Rattle.records.specs.declared.fault.ReadFault.{ReadFault}
use Rattle.records.specs.declared.fault.ReadFault.TheVariants.{Length, Record, Memory}
use Rattle.records.specs.declared.fault.FaultLine.{FaultLine}

-- The number of a record's refusal; 1 is kept for a bad length.
abbrev pub number_of : Refusal → ℕ
number_of Form = 2
number_of Place = 3
number_of Range = 4
number_of Repeated = 5
number_of Limit = 6

-- Layer 1 looks at length, kinds and unused bytes, layer 2 at what the records say.
abbrev pub layer_of : Refusal → ℕ
layer_of Form = 1
layer_of Place = 2
layer_of Range = 2
layer_of Repeated = 2
layer_of Limit = 2

-- What is printed: a bad length has place and byte 0, a record's refusal its record and byte, and want of memory no line.
abbrev pub line_of : ReadFault → Option FaultLine
line_of Length = Some (record { layer = 1; number = 1; place = 0; byte = 0 })
line_of (Record f) = Some (record { layer = layer_of f.ground.refusal; number = number_of f.ground.refusal; place = f.index; byte = f.ground.byte })
line_of Memory = None

-- The bytes of a printed refusal: E, layer, number, place, byte.
abbrev pub printed : FaultLine → List ℕ
printed x = codes "E " ++ (decimal x.layer ++ (codes " " ++ (decimal x.number ++ (codes " " ++ (decimal x.place ++ (codes " " ++ decimal x.byte))))))
