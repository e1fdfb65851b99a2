-- The types of expressions are types of the module, or built of such.
use Rattle.std.proofs.Common.{◌≡◌, ◌<◌, inl, inr, ℕ, zero, suc, List, [], ◌∷◌, ◌++◌, Bool, true, false, Option, Some, None, Result, Ok, Err, Contains, map, option_map, option_and_then, length, slice_get, if◌then◌else◌, refl, sym, ap, subst, arith}
use Rattle.std.specs.Prelude.{◌==◌, ok_or}
use Rattle.ir_types.specs.judged.ExpressionPlain.{PlainExpression, compose, plain as simple}
use Rattle.ir_types.specs.declared.expressions.Expression.TheVariants as x
use Rattle.ir_items.specs.judged.GlobalPlain.{PlainConstant, PlainOverride}
use Rattle.ir_items.specs.judged.Plain.{PlainArgument, PlainLocal, PlainFunction, PlainModule}
use Rattle.ir_items.specs.declared.functions.FunctionResult.{FunctionResult}
use Rattle.ir_kinds.specs.declared.predeclared.PredeclaredType.{PredeclaredType}
use Rattle.ir_kinds.specs.declared.spaces.AddressSpace.TheVariants as space
use Rattle.ir_types.specs.judged.Plain.{plain}
use Rattle.module_handles.proofs.Forms.{at_place, Gives, GivesIf, gives, gives_none, gives_or, some_form, no_form, pointer_made, type_made, element_made, access_index_made, load_made, variable_made}
use Rattle.module_handles.proofs.Values.{splat_made, swizzle_made, image_sample_made, image_load_made, query_made, binary_made, relational_made, as_made, matrix_loaded, value_size_made}
use Rattle.module_handles.specs.Types.{IsMadeOf, OrderGivesTypes}
use Rattle.typing_handles.proofs.Ordered.{conditions}
use Rattle.typing_rules.specs.judged.Laws.{IsAmong}
use Rattle.typing_rules.specs.declared.rules.Conclusion.{Conclusion}
use Rattle.typing_rules.specs.declared.rules.Conclusion.TheVariants.{Value, Predeclared}
use Rattle.typing_rules.specs.declared.rules.Rule.{Rule}
use Rattle.spec_expressions.specs.judged.Access.{element}
use Rattle.spec_expressions.specs.judged.Context.{inside, form_if}
use Rattle.spec_expressions.specs.judged.CooperativeMatrices.{pointed_scalar}
use Rattle.spec_expressions.specs.judged.Loads.{global_if, local_if}
use Rattle.spec_expressions.specs.judged.Maths.{arguments, concluded, math_of, matching_rules}
use Rattle.ir_kinds.specs.judged.Maths.{argument_count}
use Rattle.ir_kinds.specs.declared.maths.MathFunction.{MathFunction}
use Rattle.typing_rules.specs.judged.MathTable.{math_overloads}
use Rattle.typing_rules.specs.judged.Types.{inner_of}
use Rattle.spec_expressions.specs.judged.Results.{result_of}
use Rattle.spec_expressions.specs.judged.Typing.{HasTypeAmong, has}
use Rattle.spec_expressions.specs.declared.faults.TypingFault.{TypingFault}
use Rattle.spec_expressions.specs.declared.faults.TypingFault.TheVariants.{BuiltinArgumentsInvalid, FunctionArgumentNotFound, FunctionReturnsVoid, InvalidAccess, InvalidPointer, MissingSpecialType}
use Rattle.spec_expressions.specs.judged.FunctionHandles.{HandlesInRange}
use Rattle.spec_expressions.specs.judged.ExpressionNames.{expression_item}
use Rattle.spec_expressions.specs.judged.Operands.{given}
use Rattle.spec_expressions.specs.judged.ModuleHandles.{HandlesOK}
use Rattle.spec_expressions.specs.judged.ItemNames.{special_types}
use Rattle.spec_expressions.specs.judged.ModuleReferences as part
use Rattle.spec_expressions.specs.judged.References.{ItemExists, item, argument, answer, local, computed, argument_type, answer_type, local_type, expression_names}
use Rattle.spec_expressions.specs.declared.target.Target.{Target}
use Rattle.spec_expressions.specs.declared.target.Target.TheVariants as target
use Rattle.spec_expressions.specs.judged.Given.{predeclared_matches, handle_for, given_type}
use Rattle.typing_forms.specs.judged.Forms.{form_of, form_of_type}
use Rattle.typing_forms.specs.judged.Order.{TypesGoBack}
use Rattle.typing_forms.specs.judged.Resolutions.{by_handle, by_value}
use Rattle.typing_forms.specs.declared.form.Form.{Form}
use Rattle.typing_forms.specs.declared.form.Form.TheVariants as form

among_contains : (xs : List ℕ) (y : ℕ) → IsAmong y xs → Contains xs y
among_contains [] y among = absurd among
among_contains (z ∷ xs) y (inl e) = (0, omega arith, e)
among_contains (z ∷ xs) y (inr rest) =
    let there = among_contains xs y rest in
    let lt = there.1 in
    (suc there.0, omega (arith, lt), there.2)

behind : (y : ℕ) (xs ys : List ℕ) → IsAmong y ys → IsAmong y (xs ++ ys)
behind y [] ys h = h
behind y (z ∷ xs) ys h = inr (behind y xs ys h)

-- ---- special types

second_given : (a b c : Option ℕ) (ys : List ℕ) (y : ℕ) → b ≡ Some y → IsAmong y (given (a ∷ b ∷ c ∷ []) ++ ys)
second_given a None c ys y e = cc (e)
second_given None (Some z) c ys y e = inl (let f = e in cc (f))
second_given (Some w) (Some z) c ys y e = inr (inl (let f = e in cc (f)))

third_given : (a b c : Option ℕ) (ys : List ℕ) (y : ℕ) → c ≡ Some y → IsAmong y (given (a ∷ b ∷ c ∷ []) ++ ys)
third_given a b None ys y e = cc (e)
third_given None None (Some z) ys y e = inl (let f = e in cc (f))
third_given None (Some v) (Some z) ys y e = inr (inl (let f = e in cc (f)))
third_given (Some w) None (Some z) ys y e = inr (inl (let f = e in cc (f)))
third_given (Some w) (Some v) (Some z) ys y e = inr (inr (inl (let f = e in cc (f))))

key_among : (key : PredeclaredType) (entries : List (PredeclaredType × ℕ)) (y : ℕ) → handle_for key entries ≡ Some y → IsAmong y (map (λ (p : PredeclaredType × ℕ). p.1) entries)
key_among key [] y e = cc (e)
key_among key (entry ∷ more) y e = chosen (predeclared_matches key entry.0) e (key_among key more y)
  where
    chosen : (b : Bool) → (if b then Some entry.1 else handle_for key more) ≡ Some y → (handle_for key more ≡ Some y → IsAmong y (map (λ (p : PredeclaredType × ℕ). p.1) more))
        → IsAmong y (entry.1 ∷ map (λ (p : PredeclaredType × ℕ). p.1) more)
    chosen true f later = inl (let g = f in cc (g))
    chosen false f later = inr (later f)

-- ---- a function of a module

module _ (m : PlainModule) (ok : HandlesOK m) (f : PlainFunction) (within : HandlesInRange m f) where
  abbrev Given : Result Form TypingFault → Type 0
  Given = Gives m.types

  back : TypesGoBack m.types
  back = (conditions m ok).types

  -- a type that exists, if one is reported
  told_made : (o : Option ℕ) → ((type : ℕ) → o ≡ Some type → type < length m.types) → GivesIf m.types (option_map (form_of_type m.types) o)
  told_made None there = no_form m.types
  told_made (Some type) there = some_form m.types (form_of_type m.types type) (type_made m.types back type (there type refl))

  special_there : (type : ℕ) → IsAmong type (special_types m.special) → type < length m.types
  special_there type among = ok.there part.special (item (target.Type type)) (part.special_names (among_contains (special_types m.special) type among))

  own : (e : ℕ) (z : PlainExpression) (t : Target) → slice_get f.expressions e ≡ Some z → expression_item z ≡ Some t → ItemExists m f t
  own e z t at is = within (computed e) (item t) (expression_names at is)

  constant_made : (k : ℕ) → k < length m.constants → IsMadeOf m.types (form_if m.types (option_map (λ (c : PlainConstant). c.ty) (slice_get m.constants k)))
  constant_made k lt =
      let here = at_place m.constants k lt in
      subst (λ o. IsMadeOf m.types (form_if m.types (option_map (λ (c : PlainConstant). c.ty) o))) (sym here.1)
      (type_made m.types back here.0.ty (ok.there (part.constant k) (item (target.Type here.0.ty)) (part.constant_type here.1)))

  override_made : (k : ℕ) → k < length m.overrides → IsMadeOf m.types (form_if m.types (option_map (λ (o : PlainOverride). o.ty) (slice_get m.overrides k)))
  override_made k lt =
      let here = at_place m.overrides k lt in
      subst (λ o. IsMadeOf m.types (form_if m.types (option_map (λ (v : PlainOverride). v.ty) o))) (sym here.1)
      (type_made m.types back here.0.ty (ok.there (part.override k) (item (target.Type here.0.ty)) (part.override_type here.1)))

  global_made : (k : ℕ) → k < length m.globals → IsMadeOf m.types (global_if m.types (slice_get m.globals k))
  global_made k lt =
      let here = at_place m.globals k lt in
      subst (λ o. IsMadeOf m.types (global_if m.types o)) (sym here.1)
      (variable_made m.types back here.0.ty here.0.space (ok.there (part.variable k) (item (target.Type here.0.ty)) (part.variable_type here.1)))

  local_made : (k : ℕ) → k < length f.locals → IsMadeOf m.types (local_if m.types (option_map (λ (l : PlainLocal). l.ty) (slice_get f.locals k)))
  local_made k lt =
      let here = at_place f.locals k lt in
      subst (λ o. IsMadeOf m.types (local_if m.types (option_map (λ (l : PlainLocal). l.ty) o))) (sym here.1)
      (pointer_made m.types back here.0.ty space.Function (within (local k) (item (target.Type here.0.ty)) (local_type here.1)))

  argument_made : (number : ℕ) (o : Option PlainArgument) → slice_get f.arguments number ≡ o → GivesIf m.types (option_map (λ (a : PlainArgument). form_of_type m.types a.ty) o)
  argument_made number None at = no_form m.types
  argument_made number (Some a) at = some_form m.types (form_of_type m.types a.ty) (type_made m.types back a.ty (within (argument number) (item (target.Type a.ty)) (argument_type at)))

  answer_made : (o : Option FunctionResult) → ((r : FunctionResult) → o ≡ Some r → r.ty < length m.types) → GivesIf m.types (option_map (λ (r : FunctionResult). form_of_type m.types r.ty) o)
  answer_made None there = no_form m.types
  answer_made (Some r) there = some_form m.types (form_of_type m.types r.ty) (type_made m.types back r.ty (there r refl))

  answer_there : (callee : ℕ) (o : Option PlainFunction) → slice_get m.functions callee ≡ o → (r : FunctionResult) → option_and_then (λ (g : PlainFunction). g.result) o ≡ Some r → r.ty < length m.types
  answer_there callee None at r is = cc (is)
  answer_there callee (Some g) at r is = ok.functions callee g at answer (item (target.Type r.ty)) (answer_type is)

  -- ---- math functions

  conclusion_made : (c : Conclusion) → GivesIf m.types (option_map (form_of m.types) (given_type c m.special.predeclared))
  conclusion_made (Value v) = some_form m.types (form_of m.types (by_value (plain (inner_of v.size v.scalar)))) (value_size_made m.types v.size v.scalar)
  conclusion_made (Predeclared key) = keyed (handle_for key m.special.predeclared) refl
    where
      keyed : (o : Option ℕ) → handle_for key m.special.predeclared ≡ o → GivesIf m.types (option_map (form_of m.types) (option_map by_handle o))
      keyed None at = no_form m.types
      keyed (Some handle) at =
          some_form m.types (form_of_type m.types handle)
          (type_made m.types back handle (special_there handle (behind handle (given (m.special.ray_desc ∷ m.special.ray_intersection ∷ m.special.ray_vertex_return ∷ [])) (map (λ (p : PredeclaredType × ℕ). p.1) m.special.predeclared) (key_among key m.special.predeclared handle at))))

  concluded_made : (o : Option Rule) → Given (concluded (inside m f) o)
  concluded_made None = gives_none m.types BuiltinArgumentsInvalid
  concluded_made (Some rule) = gives_or m.types (option_map (form_of m.types) (given_type rule.conclusion m.special.predeclared)) MissingSpecialType (conclusion_made rule.conclusion)

  math_made : (fun : MathFunction) (o : Option (List Form)) → Given (math_of (inside m f) fun o)
  math_made fun None = gives_none m.types BuiltinArgumentsInvalid
  math_made fun (Some forms) = counted (length forms == argument_count fun)
    where
      counted : (b : Bool) → Given (if b then concluded (inside m f) (slice_get (matching_rules 0 forms (math_overloads fun)) 0) else Err BuiltinArgumentsInvalid)
      counted true = concluded_made (slice_get (matching_rules 0 forms (math_overloads fun)) 0)
      counted false = gives_none m.types BuiltinArgumentsInvalid

  -- ---- all kinds

  abbrev Typed : ℕ → Form → Type 0
  Typed = HasTypeAmong (inside m f) f.expressions

  made : (e : ℕ) (t : Form) → Typed e t → IsMadeOf m.types t
  made e t (has (compose type components) past at ops rule) = gives m.types (form_of_type m.types type) (type_made m.types back type (own e (compose type components) (target.Type type) at refl)) t rule
  made e t (has (simple (x.Literal value)) past at ops rule) = gives m.types _ tt t rule
  made e t (has (simple (x.Constant constant)) past at ops rule) = gives m.types _ (constant_made constant (own e _ (target.Constant constant) at refl)) t rule
  made e t (has (simple (x.Override override)) past at ops rule) = gives m.types _ (override_made override (own e _ (target.Override override) at refl)) t rule
  made e t (has (simple (x.ZeroValue type)) past at ops rule) = gives m.types _ (type_made m.types back type (own e _ (target.Type type) at refl)) t rule
  made e t (has (simple (x.Compose type components)) past at ops rule) = gives m.types _ (type_made m.types back type (own e _ (target.Type type) at refl)) t rule
  made e t (has (simple (x.Access base index)) past at ops rule) =
      gives_or m.types (element m.types (past base)) (InvalidAccess base true) (element_made m.types back (past base) (made base (past base) (ops base (inl refl)))) t rule
  made e t (has (simple (x.AccessIndex base index)) past at ops rule) = access_index_made m.types back base index (past base) (made base (past base) (ops base (inl refl))) t rule
  made e t (has (simple (x.Splat size value)) past at ops rule) = splat_made m.types size value (past value) t rule
  made e t (has (simple (x.Swizzle size vector pattern)) past at ops rule) = swizzle_made m.types size vector (past vector) t rule
  made e t (has (simple (x.FunctionArgument number)) past at ops rule) =
      gives_or m.types (option_map (λ (a : PlainArgument). form_of_type m.types a.ty) (slice_get f.arguments number)) (FunctionArgumentNotFound number) (argument_made number (slice_get f.arguments number) refl) t rule
  made e t (has (simple (x.GlobalVariable global)) past at ops rule) = gives m.types _ (global_made global (own e _ (target.GlobalVariable global) at refl)) t rule
  made e t (has (simple (x.LocalVariable variable)) past at ops rule) = gives m.types _ (local_made variable (own e _ (target.LocalVariable variable) at refl)) t rule
  made e t (has (simple (x.Load pointer)) past at ops rule) = load_made m.types back pointer (past pointer) (made pointer (past pointer) (ops pointer (inl refl))) t rule
  made e t (has (simple (x.ImageSample image sampler gather coordinate array_index offset level depth_ref clamp_to_edge)) past at ops rule) = image_sample_made m.types image gather (past image) t rule
  made e t (has (simple (x.ImageLoad image coordinate array_index sample level)) past at ops rule) = image_load_made m.types image (past image) t rule
  made e t (has (simple (x.ImageQuery image query)) past at ops rule) = query_made m.types image query (past image) t rule
  made e t (has (simple (x.Unary op expr)) past at ops rule) = gives m.types (past expr) (made expr (past expr) (ops expr (inl refl))) t rule
  made e t (has (simple (x.Binary op left right)) past at ops rule) =
      binary_made m.types op (past left) (past right) (made left (past left) (ops left (inl refl))) (made right (past right) (ops right (inr (inl refl)))) t rule
  made e t (has (simple (x.Select condition accept reject)) past at ops rule) = gives m.types (past accept) (made accept (past accept) (ops accept (inl refl))) t rule
  made e t (has (simple (x.Derivative axis ctrl expr)) past at ops rule) = gives m.types (past expr) (made expr (past expr) (ops expr (inl refl))) t rule
  made e t (has (simple (x.Relational fun inner)) past at ops rule) = relational_made m.types fun (past inner) t rule
  made e t (has (simple (x.Math fun arg arg1 arg2 arg3)) past at ops rule) = math_made fun _ t rule
  made e t (has (simple (x.As expr kind convert)) past at ops rule) = as_made m.types kind convert (past expr) t rule
  made e t (has (simple (x.CallResult function)) past at ops rule) =
      gives_or m.types (option_map (λ (r : FunctionResult). form_of_type m.types r.ty) (result_of (inside m f) function)) FunctionReturnsVoid
      (answer_made (result_of (inside m f) function) (answer_there function (slice_get m.functions function) refl)) t rule
  made e t (has (simple (x.AtomicResult type comparison)) past at ops rule) = gives m.types _ (type_made m.types back type (own e _ (target.Type type) at refl)) t rule
  made e t (has (simple (x.WorkGroupUniformLoadResult type)) past at ops rule) = gives m.types _ (type_made m.types back type (own e _ (target.Type type) at refl)) t rule
  made e t (has (simple (x.ArrayLength array)) past at ops rule) = gives m.types _ tt t rule
  made e t (has (simple (x.RayQueryVertexPositions query committed)) past at ops rule) =
      gives_or m.types (option_map (form_of_type m.types) m.special.ray_vertex_return) MissingSpecialType
      (told_made m.special.ray_vertex_return (λ type is. special_there type (third_given m.special.ray_desc m.special.ray_intersection m.special.ray_vertex_return (map (λ (p : PredeclaredType × ℕ). p.1) m.special.predeclared) type is))) t rule
  made e t (has (simple x.RayQueryProceedResult) past at ops rule) = gives m.types _ tt t rule
  made e t (has (simple (x.RayQueryGetIntersection query committed)) past at ops rule) =
      gives_or m.types (option_map (form_of_type m.types) m.special.ray_intersection) MissingSpecialType
      (told_made m.special.ray_intersection (λ type is. special_there type (second_given m.special.ray_desc m.special.ray_intersection m.special.ray_vertex_return (map (λ (p : PredeclaredType × ℕ). p.1) m.special.predeclared) type is))) t rule
  made e t (has (simple x.SubgroupBallotResult) past at ops rule) = gives m.types _ tt t rule
  made e t (has (simple (x.SubgroupOperationResult type)) past at ops rule) = gives m.types _ (type_made m.types back type (own e _ (target.Type type) at refl)) t rule
  made e t (has (simple (x.CooperativeLoad columns rows role block)) past at ops rule) =
      gives_or m.types (option_map (λ s. form.CooperativeMatrix columns rows s role) (pointed_scalar m.types (past block.pointer))) (InvalidPointer block.pointer)
      (matrix_loaded m.types columns rows role (pointed_scalar m.types (past block.pointer))) t rule
  made e t (has (simple (x.CooperativeMultiplyAdd a b c)) past at ops rule) = gives m.types (past c) (made c (past c) (ops c (inl refl))) t rule

pub order_gives_types : OrderGivesTypes
order_gives_types m ok f within e t h = made m ok f within e t h
