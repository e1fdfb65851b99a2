-- A larger set of capabilities accepts at least as many types.
use Rattle.std.proofs.Common.{inl, inr, ℕ, List, Option, Some, None, Bool}
use Rattle.ir_flags.proofs.SetLaws.{within-over}
use Rattle.ir_flags.specs.Sets.{Has, IsWithin}
use Rattle.ir_flags.specs.declared.settings.Capabilities.{Capabilities}
use Rattle.ir_kinds.specs.declared.scalars.ScalarKind.{ScalarKind}
use Rattle.ir_kinds.specs.declared.scalars.ScalarKind.TheVariants.{Sint, Uint, Float, AbstractInt, AbstractFloat}
use Rattle.ir_kinds.specs.declared.scalars.ScalarKind.TheVariants as kind
use Rattle.typing_forms.specs.IrTypes.{PlainInner, PlainType, struct as written_struct, plain}
use Rattle.typing_layout.specs.judged.Tree.{Tree, scalar, vector, matrix, cooperative_matrix, atomic, pointer, value_pointer, array, struct, image, sampler, acceleration_structure, ray_query, binding_array}
use Rattle.typing_layout.specs.judged.Blends.{BlendOK, BlendsOK}
use Rattle.typing_layout.specs.judged.Images.{VertexReturnOK}
use Rattle.typing_layout.specs.found.TreeLaws.{MoreCapabilities}
use Rattle.typing_layout.specs.judged.Rules.{ShapeOK}
use Rattle.typing_layout.specs.judged.Widths.{IsWidthAllowed, IsKindAllowed, IsAtomicInteger, IsAtomicKind}

has_more : (few many c : ℕ) → IsWithin few many → Has few c → Has many c
has_more few many c more has = within-over c few many has more

width_more : (few many two eight : Capabilities) (width : ℕ) → IsWithin few.0 many.0 → IsWidthAllowed few two eight width → IsWidthAllowed many two eight width
width_more few many two eight width more (inl four) = inl four
width_more few many two eight width more (inr (inl h)) = inr (inl (h.0, has_more few.0 many.0 two.0 more h.1))
width_more few many two eight width more (inr (inr h)) = inr (inr (h.0, has_more few.0 many.0 eight.0 more h.1))

kind_more : (few many : Capabilities) (k : ScalarKind) (width : ℕ) → IsWithin few.0 many.0 → IsKindAllowed few k width → IsKindAllowed many k width
kind_more few many Sint width more ok = width_more few many _ _ width more ok
kind_more few many Uint width more ok = width_more few many _ _ width more ok
kind_more few many Float width more ok = width_more few many _ _ width more ok
kind_more few many kind.Bool width more ok = ok
kind_more few many AbstractInt width more ok = ok
kind_more few many AbstractFloat width more ok = ok

integer_more : (few many : Capabilities) (width : ℕ) → IsWithin few.0 many.0 → IsAtomicInteger few width → IsAtomicInteger many width
integer_more few many width more (inl four) = inl four
integer_more few many width more (inr h) = inr (h.0, elim h.1 [ inl a ↦ inl (has_more few.0 many.0 _ more a) | inr b ↦ inr (has_more few.0 many.0 _ more b) ])

atomic_more : (few many : Capabilities) (k : ScalarKind) (width : ℕ) → IsWithin few.0 many.0 → IsAtomicKind few k width → IsAtomicKind many k width
atomic_more few many Sint width more ok = integer_more few many width more ok
atomic_more few many Uint width more ok = integer_more few many width more ok
atomic_more few many Float width more ok = (ok.0, has_more few.0 many.0 _ more ok.1)
atomic_more few many kind.Bool width more ok = ok
atomic_more few many AbstractInt width more ok = ok
atomic_more few many AbstractFloat width more ok = ok

vertices_more : (few many : Capabilities) (v : Bool) → IsWithin few.0 many.0 → VertexReturnOK few v → VertexReturnOK many v
vertices_more few many v more ok is = has_more few.0 many.0 _ more (ok is)

shape_more : (few many : Capabilities) (resolved : Bool) (t : Tree) → IsWithin few.0 many.0 → ShapeOK few resolved t → ShapeOK many resolved t
shape_more few many resolved (scalar s) more ok = kind_more few many s.kind s.width more ok
shape_more few many resolved (vector n s) more ok = kind_more few many s.kind s.width more ok
shape_more few many resolved (matrix columns rows s) more ok = (ok.0, kind_more few many s.kind s.width more ok.1)
shape_more few many resolved (cooperative_matrix columns rows s role) more ok = (has_more few.0 many.0 _ more ok.0, ok.1)
shape_more few many resolved (atomic s) more ok = atomic_more few many s.kind s.width more ok
shape_more few many resolved (pointer base space) more ok = ok
shape_more few many resolved (value_pointer n s space) more ok = kind_more few many s.kind s.width more ok
shape_more few many resolved (array base n stride) more ok = ok
shape_more few many resolved (struct ms span) more ok = ok
shape_more few many resolved (image dim arrayed class) more ok = record {
  cube = λ a b. has_more few.0 many.0 _ more (ok.cube a b);
  volume = ok.volume;
  external = λ a. let h = ok.external a in (has_more few.0 many.0 _ more h.0, h.1, h.2);
}
shape_more few many resolved (sampler comparison) more ok = ok
shape_more few many resolved (acceleration_structure v) more ok =
    (elim ok.0 [ inl a ↦ inl (has_more few.0 many.0 _ more a) | inr b ↦ inr (has_more few.0 many.0 _ more b) ], vertices_more few many v more ok.1)
shape_more few many resolved (ray_query v) more ok = (has_more few.0 many.0 _ more ok.0, vertices_more few many v more ok.1)
shape_more few many resolved (binding_array base n) more ok = ok

blends_more : (few many : Capabilities) (types : List PlainType) (i : Option PlainInner) → IsWithin few.0 many.0 → BlendsOK few types i → BlendsOK many types i
blends_more few many types None more ok = tt
blends_more few many types (Some (written_struct members span)) more ok = λ some.
    let h : BlendOK few types members = ok some in
    record {
      capability = has_more few.0 many.0 _ more h.capability;
      located = h.located;
      first_place = h.first_place;
      second_place = h.second_place;
      first = h.first;
      second = h.second;
      is_first = h.is_first;
      is_second = h.is_second;
      equal = h.equal;
      first_shared = h.first_shared;
      second_shared = h.second_shared;
    }
blends_more few many types (Some (plain i)) more ok = tt

pub more_capabilities : MoreCapabilities
more_capabilities few many more resolved types handle ok =
    record { shape = shape_more few many resolved _ more ok.shape; blends = blends_more few many types _ more ok.blends }
