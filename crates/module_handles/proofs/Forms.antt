-- Parts of a form built of a module's types are such forms too.
use Rattle.std.proofs.Common.{◌≡◌, ◌<◌, ◌∙◌, ℕ, zero, suc, List, [], ◌∷◌, Bool, true, false, Option, Some, None, Result, Ok, Err, Contains, map, option_map, length, slice_get, if◌then◌else◌, refl, sym, ap, subst, arith}
use Rattle.std.specs.Prelude.{nat_lt, ok_or}
use Rattle.ir_kinds.specs.judged.Scalars.{component_count}
use Rattle.ir_kinds.specs.declared.scalars.Scalar.{Scalar}
use Rattle.ir_kinds.specs.declared.scalars.VectorSize.{VectorSize}
use Rattle.ir_kinds.specs.declared.spaces.AddressSpace.{AddressSpace}
use Rattle.ir_kinds.specs.declared.spaces.AddressSpace.TheVariants as space
use Rattle.ir_types.specs.judged.Plain.{PlainInner, PlainMember, PlainType, plain, struct}
use Rattle.ir_types.specs.declared.types.TypeInner.TheVariants as inner
use Rattle.module_handles.specs.Types.{IsMadeOf}
use Rattle.spec_expressions.specs.judged.Access.{pointer_to, pointed_element, element, part_in_bounds, member, pointed_part, member_of, access_index_type}
use Rattle.spec_expressions.specs.judged.Loads.{variable_type, loaded, loaded_value, load_type}
use Rattle.spec_expressions.specs.declared.faults.TypingFault.{TypingFault}
use Rattle.spec_expressions.specs.declared.faults.TypingFault.TheVariants.{InvalidAccess, InvalidPointer, OutOfBoundsIndex}
use Rattle.typing_forms.specs.judged.Forms.{pointing, form_in, form_found, form_of_type}
use Rattle.typing_forms.specs.judged.Order.{TypesGoBack, named_types}
use Rattle.typing_forms.specs.judged.Resolutions.{inner_at}
use Rattle.typing_forms.specs.declared.form.Form.{Form}
use Rattle.typing_forms.specs.declared.form.Form.TheVariants as form

-- ---- lists and results

pub at_place : {A : Type 0} (xs : List A) (k : ℕ) → k < length xs → (a : A) × (slice_get xs k ≡ Some a)
at_place [] k lt = absurd (omega (arith, lt))
at_place (a ∷ xs) zero lt = (a, refl)
at_place (a ∷ xs) (suc k) lt = at_place xs k (omega (arith, lt))

-- the result is built of types
abbrev pub Gives : List PlainType → Result Form TypingFault → Type 0
Gives types r = (t : Form) → r ≡ Ok t → IsMadeOf types t

pub gives : (types : List PlainType) (u : Form) → IsMadeOf types u → Gives types (Ok u)
gives types u known t e = subst (IsMadeOf types) (let f = e in cc (f)) known

pub gives_none : (types : List PlainType) (f : TypingFault) → Gives types (Err f)
gives_none types f t e = cc (e)

abbrev pub GivesIf : List PlainType → Option Form → Type 0
GivesIf types o = (t : Form) → o ≡ Some t → IsMadeOf types t

pub gives_or : (types : List PlainType) (o : Option Form) (f : TypingFault) → GivesIf types o → Gives types (ok_or o f)
gives_or types None f known t e = cc (e)
gives_or types (Some u) f known t e = known t (let g = e in cc (g))

pub some_form : (types : List PlainType) (u : Form) → IsMadeOf types u → GivesIf types (Some u)
some_form types u known t e = subst (IsMadeOf types) (let f = e in cc (f)) known

pub no_form : (types : List PlainType) → GivesIf types None
no_form types t e = cc (e)

-- ---- types

pointing_made : (types : List PlainType) (base : ℕ) (s : AddressSpace) → base < length types → (o : Option PlainInner) → IsMadeOf types (pointing base s o)
pointing_made types base s lt (Some (plain (inner.Scalar scalar))) = tt
pointing_made types base s lt (Some (plain (inner.Vector n scalar))) = tt
pointing_made types base s lt _ = lt

module _ (types : List PlainType) (back : TypesGoBack types) where
  pub pointer_made : (base : ℕ) (s : AddressSpace) → base < length types → IsMadeOf types (pointer_to types base s)
  pointer_made base s lt = pointing_made types base s lt (inner_at types base)

  -- a type that another one references exists
  named_there : (handle named : ℕ) (i : PlainInner) → handle < length types → inner_at types handle ≡ Some i → Contains (named_types i) named → named < length types
  named_there handle named i lt at c =
      let less : named < handle = subst (λ n. n < handle) c.2 (back.each handle i at c.0 named c.1) in
      omega (arith, less, lt)

  made_in : (handle : ℕ) (i : PlainInner) → handle < length types → inner_at types handle ≡ Some i → IsMadeOf types (form_in types (Some handle) i)
  made_in handle (struct members span) lt at = lt
  made_in handle (plain (inner.Struct members span)) lt at = lt
  made_in handle (plain (inner.Pointer base s)) lt at = pointing_made types base s (named_there handle base (plain (inner.Pointer base s)) lt at (0, omega arith, refl)) (inner_at types base)
  made_in handle (plain (inner.Array base size stride)) lt at = named_there handle base (plain (inner.Array base size stride)) lt at (0, omega arith, refl)
  made_in handle (plain (inner.BindingArray base size)) lt at = named_there handle base (plain (inner.BindingArray base size)) lt at (0, omega arith, refl)
  made_in handle (plain (inner.Scalar s)) lt at = tt
  made_in handle (plain (inner.Vector n s)) lt at = tt
  made_in handle (plain (inner.Matrix columns rows s)) lt at = tt
  made_in handle (plain (inner.CooperativeMatrix columns rows s role)) lt at = tt
  made_in handle (plain (inner.Atomic s)) lt at = tt
  made_in handle (plain (inner.ValuePointer n s sp)) lt at = tt
  made_in handle (plain (inner.Image dim arrayed class)) lt at = tt
  made_in handle (plain (inner.Sampler comparison)) lt at = tt
  made_in handle (plain (inner.AccelerationStructure vertex_return)) lt at = tt
  made_in handle (plain (inner.RayQuery vertex_return)) lt at = tt

  made_found : (handle : ℕ) → handle < length types → (o : Option PlainInner) → inner_at types handle ≡ o → IsMadeOf types (form_found types handle o)
  made_found handle lt (Some i) at = made_in handle i lt at
  made_found handle lt None at =
      let here = at_place types handle lt in
      let e : Some here.0.inner ≡ None = sym (ap (option_map (λ (t : PlainType). t.inner)) here.1) ∙ at in cc (e)

  pub type_made : (handle : ℕ) → handle < length types → IsMadeOf types (form_of_type types handle)
  type_made handle lt = made_found handle lt (inner_at types handle) refl

  -- ---- parts

  pointed_element_made : (base : ℕ) (s : AddressSpace) → base < length types → (o : Option PlainInner) → inner_at types base ≡ o → GivesIf types (pointed_element types s o)
  pointed_element_made base s lt (Some (plain (inner.Matrix columns rows scalar))) at = some_form types (form.ValuePointer (Some rows) scalar s) tt
  pointed_element_made base s lt (Some (plain (inner.Array b size stride))) at =
      some_form types (pointer_to types b s) (pointer_made b s (named_there base b (plain (inner.Array b size stride)) lt at (0, omega arith, refl)))
  pointed_element_made base s lt (Some (plain (inner.BindingArray b size))) at =
      some_form types (pointer_to types b s) (pointer_made b s (named_there base b (plain (inner.BindingArray b size)) lt at (0, omega arith, refl)))
  pointed_element_made base s lt _ at = no_form types

  pub element_made : (of : Form) → IsMadeOf types of → GivesIf types (element types of)
  element_made (form.Vector n s) known = some_form types (form.Scalar s) tt
  element_made (form.Matrix columns rows s) known = some_form types (form.Vector rows s) tt
  element_made (form.Array base size stride) known = some_form types (form_of_type types base) (type_made base known)
  element_made (form.BindingArray base size) known = some_form types (form_of_type types base) (type_made base known)
  element_made (form.ValuePointer (Some n) s sp) known = some_form types (form.ValuePointer None s sp) tt
  element_made (form.ValuePointer None s sp) known = no_form types
  element_made (form.Pointer base sp) known = pointed_element_made base sp known (inner_at types base) refl
  element_made _ known = no_form types

  one_made : (base index count : ℕ) (u : Form) → IsMadeOf types u → Gives types (part_in_bounds base index count u)
  one_made base index count u known = chosen (nat_lt index count)
    where
      chosen : (b : Bool) → Gives types (if b then Ok u else Err (OutOfBoundsIndex base index))
      chosen true = gives types u known
      chosen false = gives_none types (OutOfBoundsIndex base index)

  member_made : (base index : ℕ) (given : ℕ → Form) → ((type : ℕ) → type < length types → IsMadeOf types (given type)) → (members : List PlainMember)
      → ((k : ℕ) (mm : PlainMember) → slice_get members k ≡ Some mm → mm.ty < length types) → Gives types (member base index given members)
  member_made base index given all members there =
      gives_or types (option_map (λ (mm : PlainMember). given mm.ty) (slice_get members index)) (OutOfBoundsIndex base index) (found (slice_get members index) refl)
    where
      found : (o : Option PlainMember) → slice_get members index ≡ o → GivesIf types (option_map (λ (mm : PlainMember). given mm.ty) o)
      found None at = no_form types
      found (Some mm) at = some_form types (given mm.ty) (all mm.ty (there index mm at))

  -- member types precede their struct
  members_there : (handle : ℕ) (members : List PlainMember) (span : ℕ) → handle < length types → inner_at types handle ≡ Some (struct members span) → (k : ℕ) (mm : PlainMember) → slice_get members k ≡ Some mm → mm.ty < length types
  members_there handle members span lt at k mm stands = named_there handle mm.ty (struct members span) lt at (among members k stands)
    where
      among : (ms : List PlainMember) (n : ℕ) → slice_get ms n ≡ Some mm → Contains (map (λ (z : PlainMember). z.ty) ms) mm.ty
      among [] n e = cc (e)
      among (z ∷ zs) zero e = (0, omega arith, (let same : z ≡ mm = (let f = e in cc (f)) in ap (λ (w : PlainMember). w.ty) same))
      among (z ∷ zs) (suc n) e = let there = among zs n e in let lt = there.1 in (suc there.0, omega (arith, lt), there.2)

  part_made : (base index pointee : ℕ) (s : AddressSpace) → pointee < length types → (o : Option PlainInner) → inner_at types pointee ≡ o → Gives types (pointed_part types base index s o)
  part_made base index pointee s lt (Some (struct members span)) at =
      member_made base index (λ type. pointer_to types type s) (λ type less. pointer_made type s less) members (members_there pointee members span lt at)
  part_made base index pointee s lt (Some (plain (inner.Matrix columns rows scalar))) at = one_made base index (component_count columns) (form.ValuePointer (Some rows) scalar s) tt
  part_made base index pointee s lt (Some (plain (inner.Array b size stride))) at =
      gives types (pointer_to types b s) (pointer_made b s (named_there pointee b (plain (inner.Array b size stride)) lt at (0, omega arith, refl)))
  part_made base index pointee s lt (Some (plain (inner.BindingArray b size))) at =
      gives types (pointer_to types b s) (pointer_made b s (named_there pointee b (plain (inner.BindingArray b size)) lt at (0, omega arith, refl)))
  part_made base index pointee s lt _ at = gives_none types (InvalidAccess base false)

  member_of_made : (base index handle : ℕ) → handle < length types → (o : Option PlainInner) → inner_at types handle ≡ o → Gives types (member_of types base index o)
  member_of_made base index handle lt (Some (struct members span)) at = member_made base index (form_of_type types) type_made members (members_there handle members span lt at)
  member_of_made base index handle lt _ at = gives_none types (InvalidAccess base false)

  pub access_index_made : (base index : ℕ) (of : Form) → IsMadeOf types of → Gives types (access_index_type types base index of)
  access_index_made base index (form.Vector n s) known = one_made base index (component_count n) (form.Scalar s) tt
  access_index_made base index (form.Matrix columns rows s) known = one_made base index (component_count columns) (form.Vector rows s) tt
  access_index_made base index (form.Array b size stride) known = gives types (form_of_type types b) (type_made b known)
  access_index_made base index (form.BindingArray b size) known = gives types (form_of_type types b) (type_made b known)
  access_index_made base index (form.Struct handle) known = member_of_made base index handle known (inner_at types handle) refl
  access_index_made base index (form.ValuePointer (Some n) s sp) known = one_made base index (component_count n) (form.ValuePointer None s sp) tt
  access_index_made base index (form.ValuePointer None s sp) known = gives_none types (InvalidAccess base false)
  access_index_made base index (form.Pointer pointee sp) known = part_made base index pointee sp known (inner_at types pointee) refl
  access_index_made base index _ known = gives_none types (InvalidAccess base false)

  loaded_made : (base : ℕ) → base < length types → (o : Option PlainInner) → IsMadeOf types (loaded types base o)
  loaded_made base lt (Some (plain (inner.Atomic s))) = tt
  loaded_made base lt _ = type_made base lt

  value_made : (n : Option VectorSize) (s : Scalar) → IsMadeOf types (loaded_value n s)
  value_made None s = tt
  value_made (Some n) s = tt

  pub load_made : (pointer : ℕ) (of : Form) → IsMadeOf types of → Gives types (load_type types pointer of)
  load_made pointer (form.Pointer base sp) known = gives types (loaded types base (inner_at types base)) (loaded_made base known (inner_at types base))
  load_made pointer (form.ValuePointer n s sp) known = gives types (loaded_value n s) (value_made n s)
  load_made pointer _ known = gives_none types (InvalidPointer pointer)

  pub variable_made : (type : ℕ) (s : AddressSpace) → type < length types → IsMadeOf types (variable_type types type s)
  variable_made type space.Handle lt = type_made type lt
  variable_made type s lt = pointer_made type s lt
