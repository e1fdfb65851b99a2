-- Values and members that are written one after the other.
use Rattle.std.proofs.Common.{◌≡◌, ◌++◌, ◌∷◌, [], ℕ, ◌^◌, ◌<◌, List, Bool, Result, Ok, Err, OnOk, map, flat_map, decimal, codes, refl, sym, ap, ap₂, subst, ◌∙◌, append_assoc, append-nil}
use Rattle.std.proofs.lemmas.Grind.{flat_map-append}
use Rattle.std.specs.declared.alloc.AllocError.{AllocError}
use Rattle.json.specs.Token.{Token, begin_array, begin_object, end_array, end_object, key, string as string_token, number as number_token, boolean as boolean_token, null as null_token}
use Rattle.json.specs.Written.{Written, Writes}
use Rattle.json.specs.Lex.{tokens as tokens_of}
use Rattle.json.specs.Print.{print}
use Rattle.json.specs.Json as json
use Rattle.json.specs.Tree.{items_tokens, json_tokens, members_tokens}
use Rattle.serde_json.specs.Data.{Data, unsigned, null, boolean, number, string, array, object, Items, no_items, item, Members, no_members, member}
use Rattle.serde_json.specs.Written.{blank, blank_items, blank_members, items_outline, members_outline, outline}
use Rattle.serde_json.proofs.Numbers.{number_of-decimal}
use Rattle.serde_json.proofs.Texts.{unless_float-number_of}
use Rattle.check_json.specs.Written.{Adds, AddsItems, AddsMembers, IsAcceptedObject, IsAcceptedText, IsMember, IsValue, blank_member, member_outline, member_tokens}

-- ---- tokens

pub written : (r : Result (Unit {0}) AllocError) (old new : Written) (t : Token) → Writes r old new t → OnOk r (Adds (t ∷ []) old new)
written (Ok x) old new t w = record { tokens = w.ok; kept = w.room.0 }
written (Err e) old new t w = tt

pub then_adds : (ts us : List Token) (a b c : Written) → Adds ts a b → Adds us b c → Adds (ts ++ us) a c
then_adds ts us a b c first second = record {
  tokens = second.tokens ∙ (ap (λ t. t ++ us) first.tokens ∙ append_assoc a.tokens ts us);
  kept = second.kept ∙ first.kept;
}

adds_none : (a : Written) → Adds [] a a
adds_none a = record { tokens = sym (append-nil a.tokens); kept = refl }

as_well : (ts us : List Token) (a b : Written) → ts ≡ us → Adds ts a b → Adds us a b
as_well ts us a b same = subst (λ t. Adds t a b) same

-- ---- plain values

pub text_value : (old new : Written) (s : List ℕ) → Adds (string_token s ∷ []) old new → IsValue old new
text_value old new s is = record { value = json.string s; plain = string s; adds = is; same = refl }

pub null_value : (old new : Written) → Adds (null_token ∷ []) old new → IsValue old new
null_value old new is = record { value = json.null; plain = null; adds = is; same = refl }

pub number_value : (old new : Written) (n : ℕ) → n < 2 ^ 64 → Adds (number_token (decimal n) ∷ []) old new → IsValue old new
number_value old new n small is = record {
  value = json.number (decimal n);
  plain = number (unsigned n);
  adds = is;
  same = ap json.number (unless_float-number_of (decimal n) (unsigned n) (number_of-decimal n small));
}

-- ---- one after the other

map-append : {A B : Type 0} (f : A → B) (xs ys : List A) → map f (xs ++ ys) ≡ map f xs ++ map f ys
map-append f [] ys = refl
map-append f (x ∷ xs) ys = ap (λ r. f x ∷ r) (map-append f xs ys)

both_same : {A B C : Type 0} (f : A → C) (g : B → C) (xs ys : List A) (us vs : List B) → map f xs ≡ map g us → map f ys ≡ map g vs → map f (xs ++ ys) ≡ map g (us ++ vs)
both_same f g xs ys us vs first second = map-append f xs ys ∙ (ap₂ (λ a b. a ++ b) first second ∙ sym (map-append g us vs))

pub no_item : (old : Written) → AddsItems old old
no_item old = record { values = []; datas = []; adds = adds_none old; same = refl }

pub one_item : (old new : Written) → IsValue old new → AddsItems old new
one_item old new is = record {
  values = is.value ∷ [];
  datas = is.plain ∷ [];
  adds = as_well (json_tokens is.value) (json_tokens is.value ++ []) old new (sym (append-nil (json_tokens is.value))) is.adds;
  same = ap (λ j. j ∷ []) is.same;
}

pub more_items : (old middle new : Written) → AddsItems old middle → AddsItems middle new → AddsItems old new
more_items old middle new first second = record {
  values = first.values ++ second.values;
  datas = first.datas ++ second.datas;
  adds = as_well (flat_map json_tokens first.values ++ flat_map json_tokens second.values) (flat_map json_tokens (first.values ++ second.values)) old new (sym (flat_map-append json_tokens first.values second.values))
      (then_adds (flat_map json_tokens first.values) (flat_map json_tokens second.values) old middle new first.adds second.adds);
  same = both_same blank outline first.values second.values first.datas second.datas first.same second.same;
}

pub next_item : (old middle new : Written) → AddsItems old middle → IsValue middle new → AddsItems old new
next_item old middle new first second = more_items old middle new first (one_item middle new second)

pub no_member : (old : Written) → AddsMembers old old
no_member old = record { values = []; datas = []; adds = adds_none old; same = refl }

pub the_member : (old middle new : Written) (k : List ℕ) → Adds (key k ∷ []) old middle → IsValue middle new → IsMember k old new
the_member old middle new k first is = record { value = is.value; plain = is.plain; adds = then_adds (key k ∷ []) (json_tokens is.value) old middle new first is.adds; same = is.same }

pub one_member : (old middle new : Written) (k : List ℕ) → Adds (key k ∷ []) old middle → IsValue middle new → AddsMembers old new
one_member old middle new k first is = record {
  values = (k, is.value) ∷ [];
  datas = (k, is.plain) ∷ [];
  adds = as_well (key k ∷ json_tokens is.value) (key k ∷ (json_tokens is.value ++ [])) old new (ap (λ t. key k ∷ t) (sym (append-nil (json_tokens is.value))))
      (then_adds (key k ∷ []) (json_tokens is.value) old middle new first is.adds);
  same = ap (λ j. (k, j) ∷ []) is.same;
}

pub more_members : (old middle new : Written) → AddsMembers old middle → AddsMembers middle new → AddsMembers old new
more_members old middle new first second = record {
  values = first.values ++ second.values;
  datas = first.datas ++ second.datas;
  adds = as_well (flat_map member_tokens first.values ++ flat_map member_tokens second.values) (flat_map member_tokens (first.values ++ second.values)) old new (sym (flat_map-append member_tokens first.values second.values))
      (then_adds (flat_map member_tokens first.values) (flat_map member_tokens second.values) old middle new first.adds second.adds);
  same = both_same blank_member member_outline first.values second.values first.datas second.datas first.same second.same;
}

-- ---- arrays

abbrev items_from : List json.Json → json.Items
items_from [] = json.no_items
items_from (j ∷ js) = json.item j (items_from js)

abbrev datas_from : List Data → Items
datas_from [] = no_items
datas_from (d ∷ ds) = item d (datas_from ds)

items_tokens_from : (js : List json.Json) → flat_map json_tokens js ++ end_array ∷ [] ≡ items_tokens (items_from js)
items_tokens_from [] = refl
items_tokens_from (j ∷ js) = append_assoc (json_tokens j) (flat_map json_tokens js) (end_array ∷ []) ∙ ap (λ t. json_tokens j ++ t) (items_tokens_from js)

blank_from : (js : List json.Json) → blank_items (items_from js) ≡ items_from (map blank js)
blank_from [] = refl
blank_from (j ∷ js) = ap (λ t. json.item (blank j) t) (blank_from js)

outline_from : (ds : List Data) → items_outline (datas_from ds) ≡ items_from (map outline ds)
outline_from [] = refl
outline_from (d ∷ ds) = ap (λ t. json.item (outline d) t) (outline_from ds)

pub array_value : (a b c d : Written) → Adds (begin_array ∷ []) a b → AddsItems b c → Adds (end_array ∷ []) c d → IsValue a d
array_value a b c d begins is ends = record {
  value = json.array (items_from is.values);
  plain = array (datas_from is.datas);
  adds = as_well (begin_array ∷ (flat_map json_tokens is.values ++ end_array ∷ [])) (begin_array ∷ items_tokens (items_from is.values)) a d (ap (λ t. begin_array ∷ t) (items_tokens_from is.values))
      (then_adds (begin_array ∷ []) (flat_map json_tokens is.values ++ end_array ∷ []) a b d begins (then_adds (flat_map json_tokens is.values) (end_array ∷ []) b c d is.adds ends));
  same = ap json.array (blank_from is.values ∙ (ap items_from is.same ∙ sym (outline_from is.datas)));
}

-- ---- objects

abbrev members_from : List (List ℕ × json.Json) → json.Members
members_from [] = json.no_members
members_from (m ∷ ms) = json.member m.0 m.1 (members_from ms)

abbrev member_datas : List (List ℕ × Data) → Members
member_datas [] = no_members
member_datas (m ∷ ms) = member m.0 m.1 (member_datas ms)

members_tokens_from : (ms : List (List ℕ × json.Json)) → flat_map member_tokens ms ++ end_object ∷ [] ≡ members_tokens (members_from ms)
members_tokens_from [] = refl
members_tokens_from (m ∷ ms) = ap (λ t. key m.0 ∷ t) (append_assoc (json_tokens m.1) (flat_map member_tokens ms) (end_object ∷ []) ∙ ap (λ t. json_tokens m.1 ++ t) (members_tokens_from ms))

blank_members_from : (ms : List (List ℕ × json.Json)) → blank_members (members_from ms) ≡ members_from (map blank_member ms)
blank_members_from [] = refl
blank_members_from (m ∷ ms) = ap (λ t. json.member m.0 (blank m.1) t) (blank_members_from ms)

outline_members_from : (ms : List (List ℕ × Data)) → members_outline (member_datas ms) ≡ members_from (map member_outline ms)
outline_members_from [] = refl
outline_members_from (m ∷ ms) = ap (λ t. json.member m.0 (outline m.1) t) (outline_members_from ms)

same_members : (values : List (List ℕ × json.Json)) (datas : List (List ℕ × Data)) → map blank_member values ≡ map member_outline datas → blank_members (members_from values) ≡ members_outline (member_datas datas)
same_members values datas same = blank_members_from values ∙ (ap members_from same ∙ sym (outline_members_from datas))

-- the last members, with the closing bracket
closed : (b c d : Written) (is : AddsMembers b c) → Adds (end_object ∷ []) c d → Adds (members_tokens (members_from is.values)) b d
closed b c d is ends =
    as_well (flat_map member_tokens is.values ++ end_object ∷ []) (members_tokens (members_from is.values)) b d (members_tokens_from is.values)
    (then_adds (flat_map member_tokens is.values) (end_object ∷ []) b c d is.adds ends)

pub object_value : (a b c d : Written) → Adds (begin_object ∷ []) a b → AddsMembers b c → Adds (end_object ∷ []) c d → IsValue a d
object_value a b c d begins is ends = record {
  value = json.object (members_from is.values);
  plain = object (member_datas is.datas);
  adds = then_adds (begin_object ∷ []) (members_tokens (members_from is.values)) a b d begins (closed b c d is ends);
  same = ap json.object (same_members is.values is.datas is.same);
}

-- ---- a few parts

pub object_2 : (a b c d e : Written) → Adds (begin_object ∷ []) a b → AddsMembers b c → AddsMembers c d → Adds (end_object ∷ []) d e → IsValue a e
object_2 a b c d e begins first second ends = object_value a b d e begins (more_members b c d first second) ends

pub object_3 : (a b c d e f : Written) → Adds (begin_object ∷ []) a b → AddsMembers b c → AddsMembers c d → AddsMembers d e → Adds (end_object ∷ []) e f → IsValue a f
object_3 a b c d e f begins first second third ends = object_value a b e f begins (more_members b c e first (more_members c d e second third)) ends

pub object_4 : (a b c d e f g : Written) → Adds (begin_object ∷ []) a b → AddsMembers b c → AddsMembers c d → AddsMembers d e → AddsMembers e f → Adds (end_object ∷ []) f g → IsValue a g
object_4 a b c d e f g begins first second third fourth ends = object_value a b f g begins (more_members b c f first (more_members c d f second (more_members d e f third fourth))) ends

pub items_4 : (a b c d e : Written) → AddsItems a b → AddsItems b c → AddsItems c d → AddsItems d e → AddsItems a e
items_4 a b c d e first second third fourth = more_items a b e first (more_items b c e second (more_items c d e third fourth))

pub members_4 : (a b c d e : Written) → AddsMembers a b → AddsMembers b c → AddsMembers c d → AddsMembers d e → AddsMembers a e
members_4 a b c d e first second third fourth = more_members a b e first (more_members b c e second (more_members c d e third fourth))

-- ---- the whole

pub accepted_object : (strict : Bool) (a b c d e f g h i j : Written) → Adds (begin_object ∷ []) a b → IsMember (codes "buffers") b c → IsMember (codes "entries") c d → IsMember (codes "entry_points") d e → IsMember (codes "globals") e f
    → Adds (key (codes "strict") ∷ boolean_token strict ∷ []) f g → Adds (key (codes "verdict") ∷ string_token (codes "accepted") ∷ []) g h → AddsMembers h i → Adds (end_object ∷ []) i j → IsAcceptedObject strict a j
accepted_object strict a b c d e f g h i j begins buffers entries points globals scope verdict rest ends =
    let last : json.Members = json.member (codes "strict") (json.boolean strict) (json.member (codes "verdict") (json.string (codes "accepted")) (members_from rest.values)) in
    let from_scope : Adds (members_tokens last) f j =
    then_adds (key (codes "strict") ∷ boolean_token strict ∷ []) (key (codes "verdict") ∷ string_token (codes "accepted") ∷ members_tokens (members_from rest.values)) f g j scope
    (then_adds (key (codes "verdict") ∷ string_token (codes "accepted") ∷ []) (members_tokens (members_from rest.values)) g h j verdict (closed h i j rest ends)) in
    let fourth : json.Members = json.member (codes "globals") globals.value last in
    let third : json.Members = json.member (codes "entry_points") points.value fourth in
    let second : json.Members = json.member (codes "entries") entries.value third in
    let first : json.Members = json.member (codes "buffers") buffers.value second in
    let from_globals : Adds (members_tokens fourth) e j = then_adds (key (codes "globals") ∷ json_tokens globals.value) (members_tokens last) e f j globals.adds from_scope in
    let from_points : Adds (members_tokens third) d j = then_adds (key (codes "entry_points") ∷ json_tokens points.value) (members_tokens fourth) d e j points.adds from_globals in
    let from_entries : Adds (members_tokens second) c j = then_adds (key (codes "entries") ∷ json_tokens entries.value) (members_tokens third) c d j entries.adds from_points in
    let from_buffers : Adds (members_tokens first) b j = then_adds (key (codes "buffers") ∷ json_tokens buffers.value) (members_tokens second) b c j buffers.adds from_entries in
    record {
      value = json.object first;
      plain = object (member (codes "buffers") buffers.plain (member (codes "entries") entries.plain (member (codes "entry_points") points.plain (member (codes "globals") globals.plain
          (member (codes "strict") (boolean strict) (member (codes "verdict") (string (codes "accepted")) (member_datas rest.datas)))))));
      adds = then_adds (begin_object ∷ []) (members_tokens first) a b j begins from_buffers;
      same = ap json.object (ap₂ (json.member (codes "buffers")) buffers.same (ap₂ (json.member (codes "entries")) entries.same (ap₂ (json.member (codes "entry_points")) points.same (ap₂ (json.member (codes "globals")) globals.same
          (ap (λ t. json.member (codes "strict") (json.boolean strict) (json.member (codes "verdict") (json.string (codes "accepted")) t)) (same_members rest.values rest.datas rest.same))))));
      verdict = refl;
      strict_is = refl;
    }

-- the text of the tokens
pub accepted_text : (strict : Bool) (old new : Written) (text : List ℕ) → old.before ≡ [] → old.tokens ≡ [] → IsAcceptedObject strict old new → text ≡ new.before ++ print new.tokens → tokens_of (print new.tokens) ≡ new.tokens
    → IsAcceptedText strict text
accepted_text strict old new text nothing none is printed reads = record {
  object = is.plain;
  spelled = (
    is.value,
    ap tokens_of (printed ∙ ap (λ b. b ++ print new.tokens) (is.adds.kept ∙ nothing)) ∙ (reads ∙ (is.adds.tokens ∙ ap (λ t. t ++ json_tokens is.value) none)),
    is.same,
  );
  verdict = is.verdict;
  strict_is = is.strict_is;
}
