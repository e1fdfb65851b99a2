-- Decoding functions of types and their parts, which agree with the encoding relations.
use Rattle.std.specs.Prelude.{◌≡◌, ◌≤◌, ℕ, Bool, true, false, List, Option, Some, None, option_map, nat_le, if◌then◌else◌, codes, refl}
use Rattle.std.proofs.Common.{inl, inr, sym, ap, subst, ◌∙◌, true≢false, rules}
use borrow.Author.Tests.{leb-true, le-leb}
use Rattle.std.specs.List.{AllByRecursion}
use Rattle.std.specs.Str.{bytes_eq}
use Rattle.std.proofs.lemmas.Option.{same_Some}
use Rattle.serde_json.specs.Data.{Data, null, boolean, number, string, array, object, Items, no_items, item, depth, items_depth}
use Rattle.serde_json.specs.Find.{as_str}
use Rattle.ir_kinds.specs.declared.bindings.BuiltIn.{BuiltIn}
use Rattle.ir_kinds.specs.declared.bindings.BuiltIn.TheVariants as built_in_kinds
use Rattle.ir_kinds.specs.declared.bindings.Binding.{Binding}
use Rattle.ir_kinds.specs.declared.bindings.Binding.TheVariants as bindings
use Rattle.ir_kinds.specs.declared.bindings.ResourceBinding.{ResourceBinding}
use Rattle.ir_kinds.specs.declared.images.ImageClass.{ImageClass}
use Rattle.ir_kinds.specs.declared.images.ImageClass.TheVariants as image_classes
use Rattle.ir_kinds.specs.declared.spaces.AddressSpace.{AddressSpace}
use Rattle.ir_kinds.specs.declared.spaces.AddressSpace.TheVariants as space
use Rattle.ir_flags.specs.declared.memory.StorageAccess.{StorageAccess}
use Rattle.ir_types.specs.declared.types.ArraySize.{ArraySize}
use Rattle.ir_types.specs.declared.types.ArraySize.TheVariants as array_sizes
use Rattle.ir_types.specs.declared.types.TypeInner.TheVariants as inner
use Rattle.ir_types.specs.judged.Plain.{PlainMember, PlainInner, struct, plain, PlainType}
use Rattle.document_words.specs.Lookup.{lookup}
use Rattle.document_words.specs.Unions.{access_union}
use Rattle.document_words.specs.Tables.{scalars, scalar_kinds, cooperative_roles, image_dimensions, storage_formats, interpolations, samplings, built_ins, spaces, storage_access}
use Rattle.document_forms.specs.found.Exact.{deepest, IsExact, IsExactRow, FormOf, RowOf}
use Rattle.document_forms.specs.judged.Form.{AU32, AText, ABool, AWord, ASet, Ends, ◌▸◌}
use Rattle.document_forms.specs.found.Decide.{◌>>=◌, or_else, word_in, first, end, tagged_of}
use Rattle.document_forms.specs.found.Inverse.{bind_some, map_some, chosen, guarded, is_word, as_str_some, first_some}
use Rattle.document_forms.specs.found.PartLaws.{either_some, word_exact}
use Rattle.document_forms.specs.found.RowLaws.{end_exact}
use Rattle.document_forms.specs.found.KindLaws.{Tagged, AreSound, kind_sound, tagged_complete, lookup_keeps}
use Rattle.document_forms.specs.found.Forms.{a_handle, a_u32, a_size, a_side, a_bool, a_text, a_word, a_set, maybe, a_list, ends, an_array, made, by_kind}
use Rattle.document_forms.specs.found.Rows.{row1, row2, row3, row4, row5}
use Rattle.document_items.specs.judged.Form.{ABuiltIn, ABinding, AResource, ASpace, AnArraySize, AnImageClass, AMember, AnInner, AType}
use Rattle.document_items.specs.found.Kinds.{storage_kinds, array_size_kinds, class_kinds, binding_kinds, inner_kinds}
use Rattle.document_items.specs.declared.kinds.StorageKind.{StorageKind}
use Rattle.document_items.specs.declared.kinds.StorageKind.TheVariants as storage_kind
use Rattle.document_items.specs.declared.kinds.SizeKind.{SizeKind}
use Rattle.document_items.specs.declared.kinds.SizeKind.TheVariants as size_kind
use Rattle.document_items.specs.declared.kinds.ClassKind.{ClassKind}
use Rattle.document_items.specs.declared.kinds.ClassKind.TheVariants as class_kind
use Rattle.document_items.specs.declared.kinds.BindingKind.{BindingKind}
use Rattle.document_items.specs.declared.kinds.BindingKind.TheVariants as binding_kind
use Rattle.document_items.specs.declared.kinds.InnerKind.{InnerKind}
use Rattle.document_items.specs.declared.kinds.InnerKind.TheVariants as inner_kind

-- ---- numbers that are not 0

abbrev pub APositive : ℕ → Data → Type 0
APositive n d = AU32 n d × (1 ≤ n)

abbrev pub positive_of : Data → Option ℕ
positive_of d = do
  n ← a_u32.find d
  if nat_le 1 n then Some n else None

pub positive_exact : IsExact positive_of APositive
positive_exact = record { sound = found; complete = there }
  where
    found : (d : Data) (n : ℕ) → positive_of d ≡ Some n → APositive n d
    found d n e =
        let a = bind_some _ (a_u32.find d) n e in
        let g = guarded (nat_le 1 a.0) (Some a.0) n a.2 in
        subst (λ m. APositive m d) (same_Some a.0 n g.1) (a_u32.exact.sound d a.0 a.1, leb-true 1 a.0 g.0)

    there : (d : Data) (n : ℕ) → APositive n d → depth d ≤ deepest → positive_of d ≡ Some n
    there d n h le = rw (a_u32.exact.complete d n h.0 le) (rw (le-leb 1 n h.1) refl)

abbrev pub a_positive : FormOf ℕ
a_positive = record { find = positive_of; Written = APositive; exact = positive_exact }

-- ---- built-ins

-- a built-in that has a bool after its word
abbrev pub marked_of : List ℕ → Items → Option BuiltIn
marked_of w rest =
    if bytes_eq w (codes "Position") then option_map built_in_kinds.Position ((row1 a_bool).find rest) else (if bytes_eq w (codes "Barycentric") then option_map built_in_kinds.Barycentric ((row1 a_bool).find rest) else None)

-- a built-in without a further element
abbrev pub alone_of : BuiltIn → Items → Option BuiltIn
alone_of x rest = option_map (λ t. x) (end rest)

unfoldable pub built_in_of : Items → Option BuiltIn
built_in_of ds = do
  t ← first ds
  w ← as_str t.0
  or_else (lookup w built_ins) (λ x. alone_of x t.1) (marked_of w t.1)

-- whether the built-in is a word alone
is_alone : BuiltIn → Bool
is_alone (built_in_kinds.Position invariant) = false
is_alone (built_in_kinds.Barycentric perspective) = false
is_alone other = true

all_alone : AllByRecursion (λ e. is_alone e.1 ≡ true) built_ins
unfolding is_alone
all_alone = search rules

alone_written : (x : BuiltIn) (w : List ℕ) (rest : Items) → is_alone x ≡ true → lookup w built_ins ≡ Some x → Ends rest → ABuiltIn x (item (string w) rest)
unfolding is_alone ABuiltIn
alone_written (built_in_kinds.Position invariant) w rest a h e = absurd (true≢false (sym a))
alone_written (built_in_kinds.Barycentric perspective) w rest a h e = absurd (true≢false (sym a))
alone_written other w rest a h e = (h, e)

pub built_in_exact : IsExactRow built_in_of ABuiltIn
unfolding built_in_of ABuiltIn
built_in_exact = record { sound = found; complete = there }
  where
    marked : (w : List ℕ) (rest : Items) (x : BuiltIn) → marked_of w rest ≡ Some x → ABuiltIn x (item (string w) rest)
    marked w rest x e =
        elim (chosen (bytes_eq w (codes "Position")) _ _ _ e) [
          | inl a ↦ subst (λ v. ABuiltIn x (item (string v) rest)) (sym (is_word w (codes "Position") a.0)) (kind_sound (row1 a_bool) built_in_kinds.Position (codes "Position") ABuiltIn (λ t ds h. (refl, h)) rest x a.1)
          | inr a ↦
              let g = guarded (bytes_eq w (codes "Barycentric")) _ x a.1 in
              subst (λ v. ABuiltIn x (item (string v) rest)) (sym (is_word w (codes "Barycentric") g.0)) (kind_sound (row1 a_bool) built_in_kinds.Barycentric (codes "Barycentric") ABuiltIn (λ t ds h. (refl, h)) rest x g.1)
        ]

    alone : (w : List ℕ) (rest : Items) (x y : BuiltIn) → lookup w built_ins ≡ Some y → alone_of y rest ≡ Some x → ABuiltIn x (item (string w) rest)
    alone w rest x y here e =
        let a = map_some (λ t. y) (end rest) x e in
        subst (λ z. ABuiltIn z (item (string w) rest)) a.2 (alone_written y w rest (lookup_keeps (λ z. is_alone z ≡ true) built_ins all_alone w y here) here (end_exact.sound rest a.0 a.1))

    found : (ds : Items) (x : BuiltIn) → built_in_of ds ≡ Some x → ABuiltIn x ds
    found ds x e =
        let t = bind_some _ (first ds) x e in
        let w = bind_some _ (as_str t.0.0) x t.2 in
        let ds_is : ds ≡ item (string w.0) t.0.1 = first_some ds t.0 t.1 ∙ ap (λ y. item y t.0.1) (as_str_some t.0.0 w.0 w.1) in
        subst (ABuiltIn x) (sym ds_is) (elim (either_some (lookup w.0 built_ins) (λ y. alone_of y t.0.1) (marked_of w.0 t.0.1) x w.2) [
          | inl here ↦ alone w.0 t.0.1 x here.0 here.1 here.2
          | inr there ↦ marked w.0 t.0.1 x there.1
        ])

    word_alone : (ds : Items) (x : BuiltIn) → (AWord built_ins x ▸ Ends) ds → items_depth ds ≤ deepest → built_in_of ds ≡ Some x
    word_alone no_items x h le = absurd h
    word_alone (item (string w) no_items) x h le = rw h.0 refl
    word_alone (item (string w) (item d ds)) x h le = absurd h.1
    word_alone (item null rest) x h le = absurd h.0
    word_alone (item (boolean c) rest) x h le = absurd h.0
    word_alone (item (number n) rest) x h le = absurd h.0
    word_alone (item (array xs) rest) x h le = absurd h.0
    word_alone (item (object ms) rest) x h le = absurd h.0

    position : (ds : Items) (v : Bool) → (AText (codes "Position") ▸ ABool v ▸ Ends) ds → items_depth ds ≤ deepest → built_in_of ds ≡ Some (built_in_kinds.Position v)
    position no_items v h le = absurd h
    position (item e no_items) v h le = absurd h.1
    position (item e (item f no_items)) v h le = rw h.0 (rw h.1.0 refl)
    position (item e (item f (item g gs))) v h le = absurd h.1.1

    barycentric : (ds : Items) (v : Bool) → (AText (codes "Barycentric") ▸ ABool v ▸ Ends) ds → items_depth ds ≤ deepest → built_in_of ds ≡ Some (built_in_kinds.Barycentric v)
    barycentric no_items v h le = absurd h
    barycentric (item e no_items) v h le = absurd h.1
    barycentric (item e (item f no_items)) v h le = rw h.0 (rw h.1.0 refl)
    barycentric (item e (item f (item g gs))) v h le = absurd h.1.1

    there : (ds : Items) (x : BuiltIn) → ABuiltIn x ds → items_depth ds ≤ deepest → built_in_of ds ≡ Some x
    there ds (built_in_kinds.Position v) h le = position ds v h le
    there ds (built_in_kinds.Barycentric v) h le = barycentric ds v h le
    there ds other h le = word_alone ds other h le

abbrev pub a_built_in : RowOf BuiltIn
a_built_in = record { find = built_in_of; Written = ABuiltIn; exact = built_in_exact }

-- ---- bindings

unfoldable pub binding_with : BindingKind → Items → Option Binding
binding_with binding_kind.BuiltIn ds = option_map bindings.BuiltIn (a_built_in.find ds)
binding_with binding_kind.Location ds = option_map (λ t. bindings.Location t.0 t.1 t.2 t.3 t.4) ((row5 a_u32 (maybe (a_word interpolations)) (maybe (a_word samplings)) (maybe a_u32) a_bool).find ds)

pub binding_sound : AreSound binding_with (λ x ds. ABinding x (array ds)) binding_kinds
unfolding binding_with ABinding
binding_sound = (
  kind_sound a_built_in bindings.BuiltIn (codes "BuiltIn") (λ x ds. ABinding x (array ds)) (λ t ds h. (refl, h)),
  (
    kind_sound (row5 a_u32 (maybe (a_word interpolations)) (maybe (a_word samplings)) (maybe a_u32) a_bool) (λ t. bindings.Location t.0 t.1 t.2 t.3 t.4) (codes "Location") (λ x ds. ABinding x (array ds)) (λ t ds h. (refl, h)),
    tt,
  ),
)

pub binding_complete : (x : Binding) → (d : Data) → ABinding x d → depth d ≤ deepest → tagged_of binding_kinds binding_with d ≡ Some x
unfolding binding_with ABinding
binding_complete (bindings.BuiltIn built_in) = tagged_complete binding_kinds binding_with a_built_in bindings.BuiltIn (codes "BuiltIn") binding_kind.BuiltIn refl (λ ds. refl) built_in
binding_complete (bindings.Location location interpolation sampling blend_src per_primitive) = tagged_complete binding_kinds binding_with (row5 a_u32 (maybe (a_word interpolations)) (maybe (a_word samplings)) (maybe a_u32) a_bool) (λ t. bindings.Location t.0 t.1 t.2 t.3 t.4) (codes "Location") binding_kind.Location refl (λ ds. refl) (location, interpolation, sampling, blend_src, per_primitive)

abbrev pub a_binding : FormOf Binding
a_binding = by_kind binding_kinds binding_with ABinding binding_sound binding_complete

abbrev pub a_resource : FormOf ResourceBinding
a_resource = made (an_array (row2 a_u32 a_u32)) (λ t. record { group = t.0; binding = t.1 }) (λ r. (r.group, r.binding)) AResource (λ r. refl) (λ t d h. h) (λ r d h. h)

-- ---- address spaces

-- a storage buffer with its access mode
abbrev pub AStorage : StorageAccess → Data → Type 0
AStorage access = Tagged (codes "Storage") (ASet storage_access (record { 0 = 0 }) access_union access ▸ Ends)

unfoldable pub storage_with : StorageKind → Items → Option StorageAccess
storage_with storage_kind.Storage ds = option_map (λ t. t) ((row1 (a_set storage_access (record { 0 = 0 }) access_union)).find ds)

pub storage_sound : AreSound storage_with (λ x ds. AStorage x (array ds)) storage_kinds
unfolding storage_with
storage_sound = (
  kind_sound (row1 (a_set storage_access (record { 0 = 0 }) access_union)) (λ t. t) (codes "Storage") (λ x ds. AStorage x (array ds)) (λ t ds h. (refl, h)),
  tt,
)

pub storage_complete : (x : StorageAccess) → (d : Data) → AStorage x d → depth d ≤ deepest → tagged_of storage_kinds storage_with d ≡ Some x
unfolding storage_with
storage_complete access = tagged_complete storage_kinds storage_with (row1 (a_set storage_access (record { 0 = 0 }) access_union)) (λ t. t) (codes "Storage") storage_kind.Storage refl (λ ds. refl) access

abbrev pub a_storage : FormOf StorageAccess
a_storage = by_kind storage_kinds storage_with AStorage storage_sound storage_complete

unfoldable pub space_of : Data → Option AddressSpace
space_of d = or_else (word_in spaces d) Some (option_map space.Storage (a_storage.find d))

-- whether the address space is a word alone
is_plain : AddressSpace → Bool
is_plain (space.Storage access) = false
is_plain other = true

all_plain : AllByRecursion (λ e. is_plain e.1 ≡ true) spaces
unfolding is_plain
all_plain = search rules

plain_written : (x : AddressSpace) (w : List ℕ) → is_plain x ≡ true → lookup w spaces ≡ Some x → ASpace x (string w)
unfolding is_plain ASpace
plain_written (space.Storage access) w a h = absurd (true≢false (sym a))
plain_written other w a h = h

pub space_exact : IsExact space_of ASpace
unfolding space_of ASpace
space_exact = record { sound = found; complete = there }
  where
    word_found : (d : Data) (x : AddressSpace) → word_in spaces d ≡ Some x → ASpace x d
    word_found d x e =
        let w = bind_some _ (as_str d) x e in
        subst (ASpace x) (sym (as_str_some d w.0 w.1)) (plain_written x w.0 (lookup_keeps (λ z. is_plain z ≡ true) spaces all_plain w.0 x w.2) w.2)

    found : (d : Data) (x : AddressSpace) → space_of d ≡ Some x → ASpace x d
    found d x e =
        elim (either_some (word_in spaces d) Some (option_map space.Storage (a_storage.find d)) x e) [
          | inl here ↦ word_found d x (here.1 ∙ here.2)
          | inr there ↦
              let a = map_some space.Storage (a_storage.find d) x there.1 in
              subst (λ y. ASpace y d) a.2 (a_storage.exact.sound d a.0 a.1)
        ]

    storage_there : (d : Data) (a : StorageAccess) → AStorage a d → depth d ≤ deepest → space_of d ≡ Some (space.Storage a)
    storage_there null a h le = absurd h
    storage_there (boolean c) a h le = absurd h
    storage_there (number n) a h le = absurd h
    storage_there (string s) a h le = absurd h
    storage_there (array ds) a h le = ap (option_map space.Storage) (a_storage.exact.complete (array ds) a h le)
    storage_there (object ms) a h le = absurd h

    word_there : (d : Data) (x : AddressSpace) → AWord spaces x d → depth d ≤ deepest → space_of d ≡ Some x
    word_there d x h le = rw ((word_exact spaces).complete d x h le) refl

    there : (d : Data) (x : AddressSpace) → ASpace x d → depth d ≤ deepest → space_of d ≡ Some x
    there d (space.Storage a) h le = storage_there d a h le
    there d other h le = word_there d other h le

abbrev pub a_space : FormOf AddressSpace
a_space = record { find = space_of; Written = ASpace; exact = space_exact }

-- ---- array sizes and image classes

unfoldable pub array_size_with : SizeKind → Items → Option ArraySize
array_size_with size_kind.Constant ds = option_map array_sizes.Constant ((row1 a_positive).find ds)
array_size_with size_kind.Pending ds = option_map array_sizes.Pending ((row1 a_handle).find ds)
array_size_with size_kind.Dynamic ds = option_map (λ t. array_sizes.Dynamic) (ends.find ds)

pub array_size_sound : AreSound array_size_with (λ x ds. AnArraySize x (array ds)) array_size_kinds
unfolding array_size_with AnArraySize
array_size_sound = (
  kind_sound (row1 a_positive) array_sizes.Constant (codes "Constant") (λ x ds. AnArraySize x (array ds)) (λ t ds h. (refl, h)),
  (
    kind_sound (row1 a_handle) array_sizes.Pending (codes "Pending") (λ x ds. AnArraySize x (array ds)) (λ t ds h. (refl, h)),
    (
      kind_sound ends (λ t. array_sizes.Dynamic) (codes "Dynamic") (λ x ds. AnArraySize x (array ds)) (λ t ds h. (refl, h)),
      tt,
    ),
  ),
)

pub array_size_complete : (x : ArraySize) → (d : Data) → AnArraySize x d → depth d ≤ deepest → tagged_of array_size_kinds array_size_with d ≡ Some x
unfolding array_size_with AnArraySize
array_size_complete (array_sizes.Constant count) = tagged_complete array_size_kinds array_size_with (row1 a_positive) array_sizes.Constant (codes "Constant") size_kind.Constant refl (λ ds. refl) count
array_size_complete (array_sizes.Pending length) = tagged_complete array_size_kinds array_size_with (row1 a_handle) array_sizes.Pending (codes "Pending") size_kind.Pending refl (λ ds. refl) length
array_size_complete array_sizes.Dynamic = tagged_complete array_size_kinds array_size_with ends (λ t. array_sizes.Dynamic) (codes "Dynamic") size_kind.Dynamic refl (λ ds. refl) tt

abbrev pub an_array_size : FormOf ArraySize
an_array_size = by_kind array_size_kinds array_size_with AnArraySize array_size_sound array_size_complete

unfoldable pub class_with : ClassKind → Items → Option ImageClass
class_with class_kind.Sampled ds = option_map (λ t. image_classes.Sampled t.0 t.1) ((row2 (a_word scalar_kinds) a_bool).find ds)
class_with class_kind.Depth ds = option_map image_classes.Depth ((row1 a_bool).find ds)
class_with class_kind.External ds = option_map (λ t. image_classes.External) (ends.find ds)
class_with class_kind.Storage ds = option_map (λ t. image_classes.Storage t.0 t.1) ((row2 (a_word storage_formats) (a_set storage_access (record { 0 = 0 }) access_union)).find ds)

pub class_sound : AreSound class_with (λ x ds. AnImageClass x (array ds)) class_kinds
unfolding class_with AnImageClass
class_sound = (
  kind_sound (row2 (a_word scalar_kinds) a_bool) (λ t. image_classes.Sampled t.0 t.1) (codes "Sampled") (λ x ds. AnImageClass x (array ds)) (λ t ds h. (refl, h)),
  (
    kind_sound (row1 a_bool) image_classes.Depth (codes "Depth") (λ x ds. AnImageClass x (array ds)) (λ t ds h. (refl, h)),
    (
      kind_sound ends (λ t. image_classes.External) (codes "External") (λ x ds. AnImageClass x (array ds)) (λ t ds h. (refl, h)),
      (
        kind_sound (row2 (a_word storage_formats) (a_set storage_access (record { 0 = 0 }) access_union)) (λ t. image_classes.Storage t.0 t.1) (codes "Storage") (λ x ds. AnImageClass x (array ds)) (λ t ds h. (refl, h)),
        tt,
      ),
    ),
  ),
)

pub class_complete : (x : ImageClass) → (d : Data) → AnImageClass x d → depth d ≤ deepest → tagged_of class_kinds class_with d ≡ Some x
unfolding class_with AnImageClass
class_complete (image_classes.Sampled kind multi) = tagged_complete class_kinds class_with (row2 (a_word scalar_kinds) a_bool) (λ t. image_classes.Sampled t.0 t.1) (codes "Sampled") class_kind.Sampled refl (λ ds. refl) (kind, multi)
class_complete (image_classes.Depth multi) = tagged_complete class_kinds class_with (row1 a_bool) image_classes.Depth (codes "Depth") class_kind.Depth refl (λ ds. refl) multi
class_complete image_classes.External = tagged_complete class_kinds class_with ends (λ t. image_classes.External) (codes "External") class_kind.External refl (λ ds. refl) tt
class_complete (image_classes.Storage format access) = tagged_complete class_kinds class_with (row2 (a_word storage_formats) (a_set storage_access (record { 0 = 0 }) access_union)) (λ t. image_classes.Storage t.0 t.1) (codes "Storage") class_kind.Storage refl (λ ds. refl) (format, access)

abbrev pub a_class : FormOf ImageClass
a_class = by_kind class_kinds class_with AnImageClass class_sound class_complete

-- ---- types

abbrev pub a_member : FormOf PlainMember
a_member = made (an_array (row4 (maybe a_text) a_handle (maybe a_binding) a_u32)) (λ t. record { name = t.0; ty = t.1; binding = t.2; offset = t.3 }) (λ m. (m.name, m.ty, m.binding, m.offset)) AMember (λ m. refl) (λ t d h. h) (λ m d h. h)

unfoldable pub inner_with : InnerKind → Items → Option PlainInner
inner_with inner_kind.Scalar ds = option_map (λ t. plain (inner.Scalar t)) ((row1 (a_word scalars)).find ds)
inner_with inner_kind.Vector ds = option_map (λ t. plain (inner.Vector t.0 t.1)) ((row2 a_size (a_word scalars)).find ds)
inner_with inner_kind.Matrix ds = option_map (λ t. plain (inner.Matrix t.0 t.1 t.2)) ((row3 a_size a_size (a_word scalars)).find ds)
inner_with inner_kind.CooperativeMatrix ds = option_map (λ t. plain (inner.CooperativeMatrix t.0 t.1 t.2 t.3)) ((row4 a_side a_side (a_word scalars) (a_word cooperative_roles)).find ds)
inner_with inner_kind.Atomic ds = option_map (λ t. plain (inner.Atomic t)) ((row1 (a_word scalars)).find ds)
inner_with inner_kind.Pointer ds = option_map (λ t. plain (inner.Pointer t.0 t.1)) ((row2 a_handle a_space).find ds)
inner_with inner_kind.ValuePointer ds = option_map (λ t. plain (inner.ValuePointer t.0 t.1 t.2)) ((row3 (maybe a_size) (a_word scalars) a_space).find ds)
inner_with inner_kind.Array ds = option_map (λ t. plain (inner.Array t.0 t.1 t.2)) ((row3 a_handle an_array_size a_u32).find ds)
inner_with inner_kind.Struct ds = option_map (λ t. struct t.0 t.1) ((row2 (a_list a_member) a_u32).find ds)
inner_with inner_kind.Image ds = option_map (λ t. plain (inner.Image t.0 t.1 t.2)) ((row3 (a_word image_dimensions) a_bool a_class).find ds)
inner_with inner_kind.Sampler ds = option_map (λ t. plain (inner.Sampler t)) ((row1 a_bool).find ds)
inner_with inner_kind.AccelerationStructure ds = option_map (λ t. plain (inner.AccelerationStructure t)) ((row1 a_bool).find ds)
inner_with inner_kind.RayQuery ds = option_map (λ t. plain (inner.RayQuery t)) ((row1 a_bool).find ds)
inner_with inner_kind.BindingArray ds = option_map (λ t. plain (inner.BindingArray t.0 t.1)) ((row2 a_handle an_array_size).find ds)

pub inner_sound : AreSound inner_with (λ x ds. AnInner x (array ds)) inner_kinds
unfolding inner_with AnInner
inner_sound = (
  kind_sound (row1 (a_word scalars)) (λ t. plain (inner.Scalar t)) (codes "Scalar") (λ x ds. AnInner x (array ds)) (λ t ds h. (refl, h)),
  (
    kind_sound (row2 a_size (a_word scalars)) (λ t. plain (inner.Vector t.0 t.1)) (codes "Vector") (λ x ds. AnInner x (array ds)) (λ t ds h. (refl, h)),
    (
      kind_sound (row3 a_size a_size (a_word scalars)) (λ t. plain (inner.Matrix t.0 t.1 t.2)) (codes "Matrix") (λ x ds. AnInner x (array ds)) (λ t ds h. (refl, h)),
      (
        kind_sound (row4 a_side a_side (a_word scalars) (a_word cooperative_roles)) (λ t. plain (inner.CooperativeMatrix t.0 t.1 t.2 t.3)) (codes "CooperativeMatrix") (λ x ds. AnInner x (array ds)) (λ t ds h. (refl, h)),
        (
          kind_sound (row1 (a_word scalars)) (λ t. plain (inner.Atomic t)) (codes "Atomic") (λ x ds. AnInner x (array ds)) (λ t ds h. (refl, h)),
          (
            kind_sound (row2 a_handle a_space) (λ t. plain (inner.Pointer t.0 t.1)) (codes "Pointer") (λ x ds. AnInner x (array ds)) (λ t ds h. (refl, h)),
            (
              kind_sound (row3 (maybe a_size) (a_word scalars) a_space) (λ t. plain (inner.ValuePointer t.0 t.1 t.2)) (codes "ValuePointer") (λ x ds. AnInner x (array ds)) (λ t ds h. (refl, h)),
              (
                kind_sound (row3 a_handle an_array_size a_u32) (λ t. plain (inner.Array t.0 t.1 t.2)) (codes "Array") (λ x ds. AnInner x (array ds)) (λ t ds h. (refl, h)),
                (
                  kind_sound (row2 (a_list a_member) a_u32) (λ t. struct t.0 t.1) (codes "Struct") (λ x ds. AnInner x (array ds)) (λ t ds h. (refl, h)),
                  (
                    kind_sound (row3 (a_word image_dimensions) a_bool a_class) (λ t. plain (inner.Image t.0 t.1 t.2)) (codes "Image") (λ x ds. AnInner x (array ds)) (λ t ds h. (refl, h)),
                    (
                      kind_sound (row1 a_bool) (λ t. plain (inner.Sampler t)) (codes "Sampler") (λ x ds. AnInner x (array ds)) (λ t ds h. (refl, h)),
                      (
                        kind_sound (row1 a_bool) (λ t. plain (inner.AccelerationStructure t)) (codes "AccelerationStructure") (λ x ds. AnInner x (array ds)) (λ t ds h. (refl, h)),
                        (
                          kind_sound (row1 a_bool) (λ t. plain (inner.RayQuery t)) (codes "RayQuery") (λ x ds. AnInner x (array ds)) (λ t ds h. (refl, h)),
                          (
                            kind_sound (row2 a_handle an_array_size) (λ t. plain (inner.BindingArray t.0 t.1)) (codes "BindingArray") (λ x ds. AnInner x (array ds)) (λ t ds h. (refl, h)),
                            tt,
                          ),
                        ),
                      ),
                    ),
                  ),
                ),
              ),
            ),
          ),
        ),
      ),
    ),
  ),
)

pub inner_complete : (x : PlainInner) → (d : Data) → AnInner x d → depth d ≤ deepest → tagged_of inner_kinds inner_with d ≡ Some x
unfolding inner_with AnInner
inner_complete (plain (inner.Scalar scalar)) = tagged_complete inner_kinds inner_with (row1 (a_word scalars)) (λ t. plain (inner.Scalar t)) (codes "Scalar") inner_kind.Scalar refl (λ ds. refl) scalar
inner_complete (plain (inner.Vector size scalar)) = tagged_complete inner_kinds inner_with (row2 a_size (a_word scalars)) (λ t. plain (inner.Vector t.0 t.1)) (codes "Vector") inner_kind.Vector refl (λ ds. refl) (size, scalar)
inner_complete (plain (inner.Matrix columns rows scalar)) = tagged_complete inner_kinds inner_with (row3 a_size a_size (a_word scalars)) (λ t. plain (inner.Matrix t.0 t.1 t.2)) (codes "Matrix") inner_kind.Matrix refl (λ ds. refl) (columns, rows, scalar)
inner_complete (plain (inner.CooperativeMatrix columns rows scalar role)) = tagged_complete inner_kinds inner_with (row4 a_side a_side (a_word scalars) (a_word cooperative_roles)) (λ t. plain (inner.CooperativeMatrix t.0 t.1 t.2 t.3)) (codes "CooperativeMatrix") inner_kind.CooperativeMatrix refl (λ ds. refl) (columns, rows, scalar, role)
inner_complete (plain (inner.Atomic scalar)) = tagged_complete inner_kinds inner_with (row1 (a_word scalars)) (λ t. plain (inner.Atomic t)) (codes "Atomic") inner_kind.Atomic refl (λ ds. refl) scalar
inner_complete (plain (inner.Pointer base place)) = tagged_complete inner_kinds inner_with (row2 a_handle a_space) (λ t. plain (inner.Pointer t.0 t.1)) (codes "Pointer") inner_kind.Pointer refl (λ ds. refl) (base, place)
inner_complete (plain (inner.ValuePointer size scalar place)) = tagged_complete inner_kinds inner_with (row3 (maybe a_size) (a_word scalars) a_space) (λ t. plain (inner.ValuePointer t.0 t.1 t.2)) (codes "ValuePointer") inner_kind.ValuePointer refl (λ ds. refl) (size, scalar, place)
inner_complete (plain (inner.Array base size stride)) = tagged_complete inner_kinds inner_with (row3 a_handle an_array_size a_u32) (λ t. plain (inner.Array t.0 t.1 t.2)) (codes "Array") inner_kind.Array refl (λ ds. refl) (base, size, stride)
inner_complete (struct members span) = tagged_complete inner_kinds inner_with (row2 (a_list a_member) a_u32) (λ t. struct t.0 t.1) (codes "Struct") inner_kind.Struct refl (λ ds. refl) (members, span)
inner_complete (plain (inner.Image dim arrayed class)) = tagged_complete inner_kinds inner_with (row3 (a_word image_dimensions) a_bool a_class) (λ t. plain (inner.Image t.0 t.1 t.2)) (codes "Image") inner_kind.Image refl (λ ds. refl) (dim, arrayed, class)
inner_complete (plain (inner.Sampler comparison)) = tagged_complete inner_kinds inner_with (row1 a_bool) (λ t. plain (inner.Sampler t)) (codes "Sampler") inner_kind.Sampler refl (λ ds. refl) comparison
inner_complete (plain (inner.AccelerationStructure vertex_return)) = tagged_complete inner_kinds inner_with (row1 a_bool) (λ t. plain (inner.AccelerationStructure t)) (codes "AccelerationStructure") inner_kind.AccelerationStructure refl (λ ds. refl) vertex_return
inner_complete (plain (inner.RayQuery vertex_return)) = tagged_complete inner_kinds inner_with (row1 a_bool) (λ t. plain (inner.RayQuery t)) (codes "RayQuery") inner_kind.RayQuery refl (λ ds. refl) vertex_return
inner_complete (plain (inner.BindingArray base size)) = tagged_complete inner_kinds inner_with (row2 a_handle an_array_size) (λ t. plain (inner.BindingArray t.0 t.1)) (codes "BindingArray") inner_kind.BindingArray refl (λ ds. refl) (base, size)
inner_complete (plain (inner.Struct members span)) = λ d h le. absurd h

abbrev pub an_inner : FormOf PlainInner
an_inner = by_kind inner_kinds inner_with AnInner inner_sound inner_complete

abbrev pub a_type : FormOf PlainType
a_type = made (an_array (row2 (maybe a_text) an_inner)) (λ t. record { name = t.0; inner = t.1 }) (λ t. (t.name, t.inner)) AType (λ t. refl) (λ t d h. h) (λ t d h. h)
