-- The types of small example interfaces.
use Rattle.std.specs.Prelude.{ℕ, List, [], ◌∷◌, false, Option, Some, None}
use Rattle.ir_kinds.specs.judged.Scalars.{floating}
use Rattle.ir_kinds.specs.declared.bindings.Binding.{Binding}
use Rattle.ir_kinds.specs.declared.bindings.Binding.TheVariants as binding
use Rattle.ir_kinds.specs.declared.bindings.BuiltIn.TheVariants.{Position}
use Rattle.ir_kinds.specs.declared.bindings.Interpolation.TheVariants.{Linear}
use Rattle.ir_kinds.specs.declared.scalars.VectorSize.TheVariants.{Quad}
use Rattle.ir_types.specs.judged.Plain.{PlainInner, PlainMember, PlainType, plain, struct}
use Rattle.ir_types.specs.declared.types.TypeInner.TheVariants as inner
use Rattle.spec_interface.specs.declared.varyings.Location.{Location}

abbrev unnamed : PlainInner → PlainType
unnamed i = record { name = None; inner = i }

abbrev bound_so : (type : ℕ) → Option Binding → (offset : ℕ) → PlainMember
bound_so type b offset = record { name = None; ty = type; binding = b; offset = offset }

-- at a location with linear interpolation, and optionally a blend source
abbrev pub linear_at : (location : ℕ) → (source : Option ℕ) → Location
linear_at n source = record { location = n; interpolation = Some Linear; sampling = None; blend_src = source; per_primitive = false }

abbrev pub bound_at : (location : ℕ) → (source : Option ℕ) → Binding
bound_at n source = binding.Location n (Some Linear) None source false

-- a float, a vector of four, a vertex with a float at a location, two blend sources, and a struct with a member without a binding
abbrev pub small_types : List PlainType
small_types =
    unnamed (plain (inner.Scalar (floating 4)))
    ∷ unnamed (plain (inner.Vector Quad (floating 4)))
    ∷ unnamed (struct (bound_so 1 (Some (binding.BuiltIn (Position false))) 0 ∷ bound_so 0 (Some (bound_at 3 None)) 16 ∷ []) 32)
    ∷ unnamed (struct (bound_so 0 (Some (bound_at 0 (Some 0))) 0 ∷ bound_so 0 (Some (bound_at 0 (Some 1))) 4 ∷ []) 8)
    ∷ unnamed (struct (bound_so 0 None 0 ∷ bound_so 0 (Some (bound_at 5 None)) 4 ∷ []) 8)
    ∷ []
