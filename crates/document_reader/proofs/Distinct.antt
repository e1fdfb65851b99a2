-- The types of an arena are distinct, and a list with a rejected type is not.
use Rattle.std.proofs.Common.{◌≡◌, ◌≢◌, ℕ, zero, suc, ◌<◌, List, [], ◌∷◌, ◌++◌, length, get_or, map, Contains, Option, Some, None, false, true≢false, refl, sym, subst, ◌∙◌, arith}
use Rattle.std.specs.List.{AllPairs, AllByRecursion, IsDistinct}
use Rattle.std.proofs.lemmas.List.{length-append}
use Rattle.ir_arena.specs.found.Arenas.{IsDistinctBy}
use Rattle.ir_arena.specs.declared.span.Span.{Span}
use Rattle.ir_types.specs.judged.Plain.{PlainType, type_view}
use Rattle.ir_types.specs.declared.types.IrType.{IrType}
use Rattle.ir_types.specs.contracts.types.IrTypePartialEq.TheImpl.{ghosts}
use Rattle.ir_types.proofs.TypeEquality.{type_eq}
use Rattle.ir_items.specs.found.GlobalView.{values_of}
use Rattle.document_forms.specs.found.Refusals.{NoneTaken}
use Rattle.document_reader.specs.judged.Distinct.{AreDistinct}

-- ---- the types of an arena are distinct

apart_from : (x : IrType) (es : List (IrType × Span)) (k : ℕ) (d : PlainType) → AllByRecursion (λ (y : IrType × Span). ghosts.eq x y.0 ≡ false) es → k < length (map type_view (values_of es)) → type_view x ≢ get_or (map type_view (values_of es)) k d
apart_from x [] k d h lt = absurd (omega arith)
apart_from x (y ∷ ys) zero d h lt = λ same. true≢false (sym ((type_eq x y.0).1 same) ∙ h.0)
apart_from x (y ∷ ys) (suc k) d h lt = apart_from x ys k d h.1 (omega arith)

pub distinct_types : (es : List (IrType × Span)) → IsDistinctBy ghosts.eq es → AreDistinct (map type_view (values_of es))
unfolding IsDistinct
distinct_types [] h i j d before lt = absurd (omega arith)
distinct_types (e ∷ es) h i zero d before lt = absurd (omega arith)
distinct_types (e ∷ es) h zero (suc j) d before lt = apart_from e.0 es j d h.0 (omega arith)
distinct_types (e ∷ es) h (suc i) (suc j) d before lt = distinct_types es h.1 i j d (omega arith) (omega arith)

-- ---- a list of which a type is rejected has two equal types

module _ {X : Type 0} where
  in_front : (xs ys : List X) (k : ℕ) (d : X) → k < length xs → get_or (xs ++ ys) k d ≡ get_or xs k d
  in_front [] ys k d lt = absurd (omega arith)
  in_front (x ∷ xs) ys zero d lt = refl
  in_front (x ∷ xs) ys (suc k) d lt = in_front xs ys k d (omega arith)

  right_behind : (xs : List X) (x : X) (ys : List X) (d : X) → get_or (xs ++ x ∷ ys) (length xs) d ≡ x
  right_behind [] x ys d = refl
  right_behind (z ∷ xs) x ys d = right_behind xs x ys d

  repeated_behind : (xs : List X) (x : X) (ys : List X) → Contains xs x → ¬ AllPairs (λ s t. s ≢ t) (xs ++ x ∷ ys)
  repeated_behind xs x ys c apart =
      let len = length-append xs (x ∷ ys) in
      apart c.0 (length xs) x c.1 (omega arith) ((in_front xs (x ∷ ys) c.0 x c.1 ∙ c.2) ∙ sym (right_behind xs x ys x))

pub refused_types : (o : Option (List PlainType)) → NoneTaken (λ xs x. Contains (map type_view xs) (type_view x)) type_view o → (ts : List PlainType) → o ≡ Some ts → ¬ AreDistinct ts
refused_types None h ts e = λ apart. absurd (let x : None ≡ Some ts = e in cc)
refused_types (Some us) h ts e = λ apart.
    let same : us ≡ ts = cc in
    repeated_behind (map type_view h.taken) (type_view h.item) h.rest h.refused (subst AreDistinct (sym same ∙ h.is) apart)
