use Rattle.std.proofs.Common.{◌≡◌, [], ◌∷◌, ◌*◌, ◌%◌, ◌^◌, refl, sym, ap, ◌∙◌}
use Rattle.ir_kinds.specs.declared.scalars.VectorSize.TheVariants.{Bi, Tri, Quad}
use Rattle.typing_rules.specs.declared.rules.ConstructorSize.{ConstructorSize}
use Rattle.typing_rules.specs.declared.rules.ConstructorSize.TheVariants as size
use Rattle.typing_rules.specs.judged.Types.{constructor_place}
use Rattle.typing_rules.specs.found.Members.{sizes_in, size_of}
use Rattle.typing_rules.proofs.constructor_set.ConstructorSet.singleton.Goals as goal

-- the bit of a constructor's index is the singleton set of that constructor
one_shape : (n : ConstructorSize) → sizes_in (1 * 2 ^ constructor_place n % 65536) ≡ n ∷ []
one_shape size.Scalar = refl
one_shape (size.Vector Bi) = refl
one_shape (size.Vector Tri) = refl
one_shape (size.Vector Quad) = refl
one_shape (size.Matrix Bi Bi) = refl
one_shape (size.Matrix Bi Tri) = refl
one_shape (size.Matrix Bi Quad) = refl
one_shape (size.Matrix Tri Bi) = refl
one_shape (size.Matrix Tri Tri) = refl
one_shape (size.Matrix Tri Quad) = refl
one_shape (size.Matrix Quad Bi) = refl
one_shape (size.Matrix Quad Tri) = refl
one_shape (size.Matrix Quad Quad) = refl

pub returns-in-Some : goal.returns-in-Some
returns-in-Some c = ap (λ k. sizes_in (1 * 2 ^ k % 65536)) c.place.ensures ∙ one_shape c.in-Some.given.size ∙ ap size_of (sym c.in-Some.is ∙ c.of.ensures)
