-- Names that were seen, with one more.
use Rattle.std.proofs.Common.{◌≡◌, ◌⊎◌, ◌↔◌, ◌∙◌, ◌==◌, inl, inr, ℕ, Bool, true, false, cond, true≢false, List, [], ◌∷◌, refl, sym, ap, if◌then◌else◌, not, Result, Ok, Err, IfOk}
use Rattle.std.specs.Str.{bytes_eq}
use Rattle.std.proofs.lemmas.Slice.Eq.{bytes_eq-Decides}
use Rattle.function_whole.specs.EntryNames.{key_of}
use Rattle.ir_kinds.specs.declared.stages.ShaderStage.{ShaderStage}
use Rattle.ir_kinds.specs.declared.stages.ShaderStage.TheVariants.{Vertex, Fragment, Compute, Mesh, Task, RayGeneration, AnyHit, ClosestHit, Miss}

-- ---- a text has one stage and one name

abbrev first_of : List ℕ → ℕ
first_of [] = 0
first_of (c ∷ cs) = c

abbrev rest_of : List ℕ → List ℕ
rest_of [] = []
rest_of (c ∷ cs) = cs

abbrev stage_by : ℕ → ShaderStage
stage_by c =
    if c == 118 then Vertex else (if c == 102 then Fragment else (if c == 99 then Compute else (if c == 109 then Mesh else (if c == 116 then Task else (if c == 114 then RayGeneration else (if c == 97 then AnyHit else (if c == 104 then ClosestHit else Miss)))))))

stage_back : (stage : ShaderStage) (name : List ℕ) → stage_by (first_of (key_of stage name)) ≡ stage
stage_back Vertex name = refl
stage_back Fragment name = refl
stage_back Compute name = refl
stage_back Mesh name = refl
stage_back Task name = refl
stage_back RayGeneration name = refl
stage_back AnyHit name = refl
stage_back ClosestHit name = refl
stage_back Miss name = refl

name_back : (stage : ShaderStage) (name : List ℕ) → rest_of (key_of stage name) ≡ name
name_back Vertex name = refl
name_back Fragment name = refl
name_back Compute name = refl
name_back Mesh name = refl
name_back Task name = refl
name_back RayGeneration name = refl
name_back AnyHit name = refl
name_back ClosestHit name = refl
name_back Miss name = refl

pub same_stage : (s t : ShaderStage) (n o : List ℕ) → key_of s n ≡ key_of t o → s ≡ t
same_stage s t n o e = sym (stage_back s n) ∙ (ap (λ k. stage_by (first_of k)) e ∙ stage_back t o)

pub same_name : (s t : ShaderStage) (n o : List ℕ) → key_of s n ≡ key_of t o → n ≡ o
same_name s t n o e = sym (name_back s n) ∙ (ap rest_of e ∙ name_back t o)

-- ---- one more

module _ (old new : List ℕ → Bool) (stage : ShaderStage) (name : List ℕ) (told : (cs : List ℕ) → new cs ≡ cond (bytes_eq (key_of stage name) cs) true (old cs)) where
  by_test : (t : ShaderStage) (n : List ℕ) (is : Bool) → bytes_eq (key_of stage name) (key_of t n) ≡ is → (new (key_of t n) ≡ true) ↔ ((old (key_of t n) ≡ true) ⊎ ((stage ≡ t) × (name ≡ n)))
  by_test t n true e =
      let same : key_of stage name ≡ key_of t n = (bytes_eq-Decides (key_of stage name) (key_of t n)).0 e in (
        λ seen. inr (same_stage stage t name n same, same_name stage t name n same),
        λ o. told (key_of t n) ∙ ap (λ b. cond b true (old (key_of t n))) e,
      )
  by_test t n false e =
      let is : new (key_of t n) ≡ old (key_of t n) = told (key_of t n) ∙ ap (λ b. cond b true (old (key_of t n))) e in (
        λ seen. inl (sym is ∙ seen),
        λ o. elim o [
          | inl before ↦ is ∙ before
          | inr same ↦ absurd (true≢false (sym ((bytes_eq-Decides (key_of stage name) (key_of t n)).1 (ap (λ s. key_of s name) same.0 ∙ ap (key_of t) same.1)) ∙ e))
        ],
      )

  pub seen_more : (t : ShaderStage) (n : List ℕ) → (new (key_of t n) ≡ true) ↔ ((old (key_of t n) ≡ true) ⊎ ((stage ≡ t) × (name ≡ n)))
  seen_more t n = by_test t n (bytes_eq (key_of stage name) (key_of t n)) refl

pub fresh_if : (fresh seen : Bool) → fresh ≡ not seen → (fresh ≡ true) ↔ ((seen ≡ true) → ⊥)
fresh_if fresh true e = (λ f. λ s. true≢false (sym f ∙ e), λ no. absurd (no refl))
fresh_if fresh false e = (λ f. λ s. true≢false (sym s), λ no. e)

pub if_ok_as : {A E : Type 0} (P Q : A → Type 0) → ((a : A) → P a → Q a) → (r : Result A E) → IfOk r P → IfOk r Q
if_ok_as P Q widen (Ok a) h = widen a h
if_ok_as P Q widen (Err e) h = tt
