-- From the JSON value of the bytes to the document that they encode.
use Rattle.std.proofs.Common.{◌≡◌, ◌≢◌, ℕ, Bool, List, Option, Some, None, option_map, option_and_then, Result, Ok, Err, IfErr, IsErr, IsErrAnd, refl, sym, subst, ◌∙◌}
use Rattle.std.proofs.lemmas.Option.{same_Some}
use Rattle.document_forms.specs.declared.error.ReadError.{ReadError}
use Rattle.document_forms.specs.declared.error.ReadError.TheVariants as part
use Rattle.document_reader.specs.declared.error.DocumentError.{DocumentError}
use Rattle.document_reader.specs.found.Reasons.{IsMalformed, IsReason, of_part}
use Rattle.serde_json.specs.Data.{Data, Items}
use Rattle.serde_json.specs.Find.{as_array, as_bool}
use Rattle.serde_json.specs.Read.{read}
use Rattle.serde_json.proofs.Nesting.{depth-read}
use Rattle.document_forms.specs.found.Decide.{first, all_of, behind}
use Rattle.document_forms.specs.found.Inverse.{bind_some}
use Rattle.document_items.specs.found.Types.{a_type}
use Rattle.document_reader.specs.judged.Distinct.{AreDistinct}
use Rattle.document_reader.specs.judged.Plain.{PlainDocument}
use Rattle.ir_flags.specs.declared.settings.ValidationFlags.{ValidationFlags}
use Rattle.ir_flags.specs.declared.settings.Capabilities.{Capabilities}
use Rattle.ir_flags.specs.declared.stages.ShaderStages.{ShaderStages}
use Rattle.ir_flags.specs.declared.stages.SubgroupOperationSet.{SubgroupOperationSet}
use Rattle.ir_types.specs.judged.Plain.{PlainType}
use Rattle.ir_items.specs.judged.Plain.{PlainModule}
use Rattle.document_reader.specs.found.Documents.{ListParts, made_of, the_flags, the_capabilities, the_subgroups, the_lists, the_parts, version_of, document_made, a_document, first_part, content_of, content_in, parts_in, document_in}
use Rattle.document_reader.specs.judged.Form.{ADocument, IsValueOf, Reads, OneDocument}

-- ---- decoded element by element, and as a row

-- an element before others, with any result
peel : {A B C : Type 0} (f : Data → Option A) (g : Items → Option B) (k : A → Items → Option C) (m : A × B → C) → ((x : A) (ds : Items) → k x ds ≡ option_map (λ y. m (x, y)) (g ds))
    → (ds : Items) → option_and_then (λ (p : A × Items). k p.0 p.1) (first_part f ds) ≡ option_map m (behind f g ds)
peel {A} {B} {C} f g k m same ds = parts (first ds)
  where
    others : (x : A) (o : Option B) (z : Option C) → z ≡ option_map (λ y. m (x, y)) o → z ≡ option_map m (option_and_then (λ y. Some (x, y)) o)
    others x None z e = e
    others x (Some y) z e = e

    items : (rest : Items) (o : Option A)
        → option_and_then (λ (p : A × Items). k p.0 p.1) (option_and_then (λ x. Some (x, rest)) o) ≡ option_map m (option_and_then (λ x. option_and_then (λ y. Some (x, y)) (g rest)) o)
    items rest None = refl
    items rest (Some x) = others x (g rest) (k x rest) (same x rest)

    parts : (o : Option (Data × Items))
        → option_and_then (λ (p : A × Items). k p.0 p.1) (option_and_then (λ (t : Data × Items). option_and_then (λ x. Some (x, t.1)) (f t.0)) o) ≡ option_map m (option_and_then (λ (t : Data × Items). option_and_then (λ x. option_and_then (λ y. Some (x, y)) (g t.1)) (f t.0)) o)
    parts None = refl
    parts (Some t) = items t.1 (f t.0)

-- the types and the lists after them
types_and_lists : (f : ValidationFlags) (c : Capabilities) (s : ShaderStages × SubgroupOperationSet) (r : Bool) (ds : Items)
    → option_and_then (λ m. Some (made_of f c s r m)) (content_in ds) ≡ option_map (λ y. document_made (tt, (f, (c, (s, (r, y)))))) (behind (all_of a_type.find) the_lists.find ds)
types_and_lists f c s r ds = parts (first ds)
  where
    lists : (types : List PlainType) (o : Option ListParts)
        → option_and_then (λ m. Some (made_of f c s r m)) (option_and_then (λ y. Some (content_of types y)) o) ≡ option_map (λ y. document_made (tt, (f, (c, (s, (r, y)))))) (option_and_then (λ y. Some (types, y)) o)
    lists types None = refl
    lists types (Some y) = refl

    items : (rest : Items) (o : Option (List PlainType))
        → option_and_then (λ m. Some (made_of f c s r m)) (option_and_then (λ types. option_and_then (λ y. Some (content_of types y)) (the_lists.find rest)) o)
        ≡ option_map (λ y. document_made (tt, (f, (c, (s, (r, y)))))) (option_and_then (λ types. option_and_then (λ y. Some (types, y)) (the_lists.find rest)) o)
    items rest None = refl
    items rest (Some types) = lists types (the_lists.find rest)

    parts : (o : Option (Data × Items))
        → option_and_then (λ m. Some (made_of f c s r m)) (option_and_then (λ (t : Data × Items). option_and_then (λ types. option_and_then (λ y. Some (content_of types y)) (the_lists.find t.1)) (all_of a_type.find t.0)) o)
        ≡ option_map (λ y. document_made (tt, (f, (c, (s, (r, y)))))) (option_and_then (λ (t : Data × Items). option_and_then (λ types. option_and_then (λ y. Some (types, y)) (the_lists.find t.1)) (all_of a_type.find t.0)) o)
    parts None = refl
    parts (Some t) = items t.1 (all_of a_type.find t.0)

parts_are : (ds : Items) → parts_in ds ≡ option_map document_made (the_parts.find ds)
parts_are = peel version_of _ _ document_made
    (λ v. peel the_flags.find _ _ (λ t. document_made (v, t))
    (λ f. peel the_capabilities.find _ _ (λ t. document_made (v, (f, t)))
    (λ c. peel the_subgroups.find _ _ (λ t. document_made (v, (f, (c, t))))
    (λ s. peel as_bool _ _ (λ t. document_made (v, (f, (c, (s, t)))))
    (λ r. types_and_lists f c s r)))))

pub document_is : (v : Data) → document_in v ≡ a_document.find v
document_is v = array (as_array v)
  where
    array : (o : Option Items) → option_and_then parts_in o ≡ option_map document_made (option_and_then the_parts.find o)
    array None = refl
    array (Some ds) = parts_are ds

-- ---- values and bytes

-- what the value encodes is decoded
pub found_in : (bytes : List ℕ) (v : Data) (d : PlainDocument) → read bytes ≡ Some v → (r : Reads bytes d) → document_in v ≡ Some d
found_in bytes v d value r =
    let same : r.value ≡ v = same_Some _ _ (sym r.value_is ∙ value) in
    document_is v ∙ a_document.exact.complete v d (subst (ADocument d) same r.form) (depth-read bytes v value)

pub reads_document : (bytes : List ℕ) (v : Data) (d : PlainDocument) → IsValueOf bytes v → Some d ≡ document_in v → AreDistinct d.content.types → Reads bytes d
reads_document bytes v d u found distinct =
    record { short = u.short; utf8 = u.utf8; value = v; value_is = u.value_is; form = a_document.exact.sound v d (sym (document_is v) ∙ sym found); distinct = distinct }

pub reads_none : (bytes : List ℕ) (v : Data) → IsValueOf bytes v → ((d : PlainDocument) → document_in v ≡ Some d → ¬ AreDistinct d.content.types) → (d : PlainDocument) → ¬ Reads bytes d
reads_none bytes v u refused d r = refused d (found_in bytes v d u.value_is r) r.distinct

-- bytes that are no JSON value encode no document
pub no_value : (bytes : List ℕ) → ((value : Data) → ¬ IsValueOf bytes value) → (d : PlainDocument) → ¬ Reads bytes d
no_value bytes none d r = none r.value (record { short = r.short; utf8 = r.utf8; value_is = r.value_is })

-- a value that is not decoded encodes nothing
pub none_written : (bytes : List ℕ) (v : Data) → IsValueOf bytes v → ((d : PlainDocument) → document_in v ≡ Some d → ¬ AreDistinct d.content.types)
    → IsMalformed bytes
none_written bytes v u refused =
    record { short = u.short; utf8 = u.utf8; value = v; value_is = u.value_is; none = λ d form. refused d (document_is v ∙ a_document.exact.complete v d form (depth-read bytes v u.value_is)) }

-- a decoder's error is right about the whole, unless it is out of memory
pub reason_of : (bytes : List ℕ) (p : ReadError) (e : DocumentError) → e ≡ of_part p → (p ≢ part.Memory → IsMalformed bytes) → IsReason bytes e
reason_of bytes part.Memory e is malformed = subst (IsReason bytes) (sym is) tt
reason_of bytes (part.Malformed place wanted) e is malformed = subst (IsReason bytes) (sym is) (malformed (λ q. let same = q in cc))

-- bytes encode at most one document
pub one_document_lem : OneDocument
one_document_lem bytes d e r s = same_Some d e (sym (found_in bytes r.value d r.value_is r) ∙ found_in bytes r.value e r.value_is s)

-- ---- what is rejected

pub err_if : {T E : Type 0} (r : Result T E) (Q P : E → Type 0) → IsErr r × IsErrAnd r Q → ((e : E) → Q e → P e) → IfErr r P
err_if (Ok x) Q P h to = tt
err_if (Err e) Q P h to = to e h.1

-- if no distinct types are decoded, no module with distinct types is
pub module_refused : (ds : Items) (t : Data) (rest : Items) → Some (t, rest) ≡ first ds → ((ts : List PlainType) → all_of a_type.find t ≡ Some ts → ¬ AreDistinct ts)
    → (m : PlainModule) → content_in ds ≡ Some m → ¬ AreDistinct m.types
module_refused ds t rest here types m found = λ apart.
    let a = bind_some _ (all_of a_type.find t) m (rw (sym here) at found) in
    let b = bind_some _ (the_lists.find rest) m a.2 in
    let same : content_of a.0 b.0 ≡ m = same_Some _ _ b.2 in
    types a.0 a.1 (subst (λ (x : PlainModule). AreDistinct x.types) (sym same) apart)

-- if no module with distinct types is decoded after the settings, no document with distinct types is
pub document_refused : (d : Data) (ds0 ds1 ds2 ds3 ds4 ds5 : Items) (f : ValidationFlags) (c : Capabilities) (s : ShaderStages × SubgroupOperationSet) (r : Bool)
    → Some ds0 ≡ as_array d → Some (tt, ds1) ≡ first_part version_of ds0 → Some (f, ds2) ≡ first_part the_flags.find ds1 → Some (c, ds3) ≡ first_part the_capabilities.find ds2
    → Some (s, ds4) ≡ first_part the_subgroups.find ds3 → Some (r, ds5) ≡ first_part as_bool ds4
    → ((m : PlainModule) → content_in ds5 ≡ Some m → ¬ AreDistinct m.types) → (x : PlainDocument) → document_in d ≡ Some x → ¬ AreDistinct x.content.types
document_refused d ds0 ds1 ds2 ds3 ds4 ds5 f c s r items at0 at1 at2 at3 at4 refused x found = λ apart.
    let all : option_and_then parts_in (Some ds0) ≡ Some x = subst (λ o. option_and_then parts_in o ≡ Some x) (sym items) found in
    let rest0 = rw (sym at0) at all in
    let rest1 = rw (sym at1) at rest0 in
    let rest2 = rw (sym at2) at rest1 in
    let rest3 = rw (sym at3) at rest2 in
    let rest4 = rw (sym at4) at rest3 in
    let a = bind_some _ (content_in ds5) x rest4 in
    let same : made_of f c s r a.0 ≡ x = same_Some _ _ a.2 in
    refused a.0 a.1 (subst (λ (y : PlainDocument). AreDistinct y.content.types) (sym same) apart)
