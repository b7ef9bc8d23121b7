-- Five values, one for each node.
use Rattle.std.specs.Prelude.{ℕ, zero, suc}
use Rattle.arc_bytes.specs.declared.five.Five.{Five}

-- The value of a node. A number above 4 names the last one.
abbrev pub at : {T : Type 0} → Five T → ℕ → T
at five zero = five.d0
at five (suc zero) = five.d1
at five (suc (suc zero)) = five.d2
at five (suc (suc (suc zero))) = five.d3
at five (suc (suc (suc (suc node)))) = five.d4

-- The five values with another one at a node.
abbrev pub with : {T : Type 0} → Five T → ℕ → T → Five T
with five zero value = record five { d0 = value }
with five (suc zero) value = record five { d1 = value }
with five (suc (suc zero)) value = record five { d2 = value }
with five (suc (suc (suc zero))) value = record five { d3 = value }
with five (suc (suc (suc (suc node)))) value = record five { d4 = value }
