-- Layout requirements of address spaces.
use Rattle.std.proofs.Common.{◌≡◌, ◌≢◌, ◌∙◌, inl, inr, ℕ, Some, Result, Ok, Err, MatchResult, IsOk, IsTrue, refl, sym, subst}
use Rattle.module_globals.specs.Faults.{counted_inner, counted_tree, IsLayoutFault, IsWrongBy}
use Rattle.module_globals.specs.declared.error.GlobalVariableError.{GlobalVariableError}
use Rattle.module_globals.specs.declared.error.GlobalVariableError.TheVariants as error
use Rattle.ir_flags.specs.Sets.{Has}
use Rattle.ir_flags.specs.declared.memory.StorageAccess.{StorageAccess}
use Rattle.ir_flags.specs.declared.memory.TheConstants.StorageAccess.{STORE}
use Rattle.ir_flags.specs.declared.settings.Capabilities.{Capabilities}
use Rattle.ir_flags.specs.declared.settings.ValidationFlags.{ValidationFlags}
use Rattle.ir_flags.specs.declared.settings.TheConstants.ValidationFlags.{STRUCT_LAYOUTS}
use Rattle.ir_items.specs.judged.GlobalPlain.{PlainGlobal}
use Rattle.ir_items.specs.judged.Plain.{PlainModule}
use Rattle.ir_kinds.specs.declared.spaces.AddressSpace.TheVariants.{Uniform, Storage, Immediate, TaskPayload}
use Rattle.ir_types.specs.judged.Plain.{PlainInner}
use Rattle.module_globals.proofs.SizeLemmas.{size_found}
use Rattle.typing_layout.specs.judged.Buffers.{FitsStorageBuffer, FitsUniformBuffer, uniform_alignment}
use Rattle.typing_layout.specs.judged.Immediates.{FitsImmediates}
use Rattle.spec_interface.specs.judged.Spaces.{LiesIn, effective_type, is_storage}
use Rattle.typing_layout.specs.judged.Layout.{alignment}
use Rattle.typing_layout.specs.found.BufferFaults.{BreaksStorage, BreaksUniform, IsBroken, IsUnfit}
use Rattle.typing_layout.specs.found.Infos.{HasInfo}
use Rattle.typing_layout.specs.declared.type_error.Disalignment.{Disalignment}
use Rattle.typing_layout.specs.declared.type_error.ImmediateError.{ImmediateError}
use Rattle.typing_layout.specs.declared.info.TypeInfo.{TypeInfo}
use Rattle.typing_forms.specs.judged.Sizes.{type_size}
use Rattle.typing_forms.specs.declared.form.Form.{Form}

laid : (P : ℕ → Type 0) (Q : ℕ × Disalignment → Type 0) (l : Result ℕ (ℕ × Disalignment)) → MatchResult l P Q → IsOk l → (a : ℕ) × P a
laid P Q (Ok a) m is = (a, m)
laid P Q (Err e) m is = let n = is in cc

not_laid : (P : ℕ → Type 0) (Q : ℕ × Disalignment → Type 0) (l : Result ℕ (ℕ × Disalignment)) (e : ℕ × Disalignment) → l ≡ Err e → MatchResult l P Q → Q e
not_laid P Q l e is m = subst (λ r. MatchResult r P Q) is m

module _ (HasForm : (expression : ℕ) → Form → Type 0) (flags : ValidationFlags) (capabilities : Capabilities) (m : PlainModule) (v : PlainGlobal) (info : TypeInfo) (told : HasInfo m.types (counted_tree m v) info) where
  abbrev Lies : Type 0
  Lies = LiesIn flags v.space (counted_inner m v) (counted_tree m v)

  abbrev Wrong : GlobalVariableError → Type 0
  Wrong = IsWrongBy HasForm flags capabilities m v

  stored : (access : StorageAccess) → v.space ≡ Storage access → access ≢ STORE → (Has flags.0 STRUCT_LAYOUTS.0 → FitsStorageBuffer (counted_tree m v)) → Lies
  stored access is differs laid = subst (λ s. LiesIn flags s (counted_inner m v) (counted_tree m v)) (sym is) (laid, differs)

  storage_wrong : (access : StorageAccess) → v.space ≡ Storage access → (e : GlobalVariableError) → IsLayoutFault flags v.space info.storage_layout e → Wrong e
  storage_wrong access is (error.Alignment s type d) f =
      (f.0, f.1, inl (subst (λ s. IsTrue (is_storage s)) (sym is) refl, not_laid (λ a. FitsStorageBuffer (counted_tree m v) × (a ≡ alignment (counted_tree m v))) (IsBroken BreaksStorage m.types (counted_tree m v)) info.storage_layout (type, d) f.2 told.storage))
  storage_wrong access is _ f = absurd f

  pub storage_told : (access : StorageAccess) → v.space ≡ Storage access → access ≢ STORE → (r : Result (Unit {0}) GlobalVariableError)
      → MatchResult r (λ _. Has flags.0 STRUCT_LAYOUTS.0 → IsOk info.storage_layout) (IsLayoutFault flags v.space info.storage_layout) → MatchResult r (λ _. Lies) Wrong
  storage_told access is differs (Ok u) h = stored access is differs (λ asked. (laid (λ a. FitsStorageBuffer (counted_tree m v) × (a ≡ alignment (counted_tree m v))) (IsBroken BreaksStorage m.types (counted_tree m v)) info.storage_layout told.storage (h asked)).1.0)
  storage_told access is differs (Err e) h = storage_wrong access is e h

  uniform_wrong : v.space ≡ Uniform → (e : GlobalVariableError) → IsLayoutFault flags v.space info.uniform_layout e → Wrong e
  uniform_wrong is (error.Alignment s type d) f = (f.0, f.1, inr (is, not_laid (λ a. FitsUniformBuffer (counted_tree m v) × (a ≡ uniform_alignment (counted_tree m v))) (IsBroken BreaksUniform m.types (counted_tree m v)) info.uniform_layout (type, d) f.2 told.uniform))
  uniform_wrong is _ f = absurd f

  pub uniform_told : v.space ≡ Uniform → (r : Result (Unit {0}) GlobalVariableError)
      → MatchResult r (λ _. Has flags.0 STRUCT_LAYOUTS.0 → IsOk info.uniform_layout) (IsLayoutFault flags v.space info.uniform_layout) → MatchResult r (λ _. Lies) Wrong
  uniform_told is (Ok u) h = subst (λ s. LiesIn flags s (counted_inner m v) (counted_tree m v)) (sym is) (λ asked. (laid (λ a. FitsUniformBuffer (counted_tree m v) × (a ≡ uniform_alignment (counted_tree m v))) (IsBroken BreaksUniform m.types (counted_tree m v)) info.uniform_layout told.uniform (h asked)).1.0)
  uniform_told is (Err e) h = uniform_wrong is e h

  pub immediate_ok : v.space ≡ Immediate → (u : Unit {0}) → info.immediates_compatibility ≡ Ok u → Lies
  immediate_ok is u e = subst (λ s. LiesIn flags s (counted_inner m v) (counted_tree m v)) (sym is) (subst (λ r. MatchResult r (λ _. FitsImmediates (counted_tree m v)) (IsUnfit (counted_tree m v))) e told.immediates)

  pub immediate_wrong : (x : ImmediateError) → info.immediates_compatibility ≡ Err x → IsUnfit (counted_tree m v) x
  immediate_wrong x e = subst (λ r. MatchResult r (λ _. FitsImmediates (counted_tree m v)) (IsUnfit (counted_tree m v))) e told.immediates

  pub bytes_told : v.space ≡ TaskPayload → (i : PlainInner) → counted_inner m v ≡ Some i → (r : Result (Unit {0}) GlobalVariableError)
      → MatchResult r (λ _. type_size i ≢ 0) (λ e. (e ≡ error.ZeroSizedTaskPayload) × (type_size i ≡ 0)) → MatchResult r (λ _. Lies) Wrong
  bytes_told is i at (Ok u) h =
      subst (λ s. LiesIn flags s (counted_inner m v) (counted_tree m v)) (sym is) (λ z. h (size_found m.types (effective_type m.types v.ty) i at ∙ z))
  bytes_told is i at (Err e) h = subst Wrong (sym h.0) (is, sym (size_found m.types (effective_type m.types v.ty) i at) ∙ h.1)
