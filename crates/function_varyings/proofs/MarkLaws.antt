-- Marks, their numbers, and words with these.
use Rattle.std.proofs.Common.{◌≡◌, ◌⊎◌, inl, inr, ◌<◌, ◌≤◌, ◌+◌, ◌/◌, ◌%◌, zero, suc, ℕ, Bool, true, false, cond, List, [], ◌∷◌, ◌++◌, Some, None, Contains, length, get_or, set, slice_get, nat_eq, bit_and, bit_or, true≢false, refl, sym, ap, subst, ◌∙◌, arith}
use Rattle.std.specs.BTreeMap.{BTreeMap, get}
use Rattle.std.specs.Int.{bit_at}
use Rattle.std.specs.Ordering.{is_eq, nat_cmp}
use Rattle.std.specs.declared.cmp.Ordering.{Ordering}
use Rattle.std.specs.declared.cmp.Ordering.TheVariants.{Less, Equal, Greater}
use Rattle.std.proofs.lemmas.Bool.{cases_eq, eq-eqb}
use Rattle.std.proofs.lemmas.Bool.Decides.{nat_tests}
use Rattle.std.proofs.lemmas.List.{get_or-set_same, get_or-set_other, get_or_default, length-append}
use Rattle.std.proofs.lemmas.Option.{same_Some, slice_get_within}
use Rattle.std.proofs.lemmas.Map.Lookups.{exact_unsigned}
use Rattle.std.proofs.lemmas.Nat.Bits.{bit_at_or, bit_at_and, bit_at-lt, bit_at-zero}
use Rattle.ir_flags.specs.declared.settings.ValidationFlags.{ValidationFlags}
use Rattle.ir_sets.specs.Bits.{has_bit}
use Rattle.ir_types.specs.judged.Plain.{PlainType}
use Rattle.spec_interface.specs.judged.Varyings.{mesh_varyings}
use Rattle.spec_interface.specs.declared.varyings.Varying.{Varying}
use Rattle.function_varyings.proofs.Places.{below_or_same}
use Rattle.function_varyings.specs.Marks.{AreNewlyTaken, IsAmong, IsIn, IsNumber, IsPartOf, KeepsBits, KeepsNumbers, KeepsWords, Takes, TakesAt}
use Rattle.function_varyings.specs.declared.marks.Part.{Part}
use Rattle.function_varyings.specs.declared.marks.Word.{Word}

-- ---- maps by numbers

equal_by : (o : Ordering) → is_eq o ≡ true → o ≡ Equal
equal_by Less e = absurd (true≢false (sym e))
equal_by Equal e = refl
equal_by Greater e = absurd (true≢false (sym e))

pub same_key : (k q : ℕ) → is_eq (nat_cmp k q) ≡ true → k ≡ q
same_key k q e = exact_unsigned k q (equal_by (nat_cmp k q) e)

pub none_some : {A : Type 0} (x : A) → None ≡ Some x → ⊥
none_some x e = cc (e)

module _ {V : Type 0} (k : ℕ) (v : V) (old new : BTreeMap ℕ V) (told : (q : ℕ) → get nat_cmp new q ≡ cond (is_eq (nat_cmp k q)) (Some v) (get nat_cmp old q)) where
  one_more_by : (P : ℕ → V → Type 0) → P k v → (q : ℕ) (w : V) (is : Bool) → is_eq (nat_cmp k q) ≡ is → get nat_cmp new q ≡ cond is (Some v) (get nat_cmp old q) → get nat_cmp new q ≡ Some w → (get nat_cmp old q ≡ Some w → P q w) → P q w
  one_more_by P this q w true e is found before = subst (λ n. P n w) (same_key k q e) (subst (P k) (same_Some v w (sym is ∙ found)) this)
  one_more_by P this q w false e is found before = before (sym is ∙ found)

  -- what holds of all entries, and of one more
  pub one_more : (P : ℕ → V → Type 0) → P k v → ((q : ℕ) (w : V) → get nat_cmp old q ≡ Some w → P q w) → (q : ℕ) (w : V) → get nat_cmp new q ≡ Some w → P q w
  one_more P this before q w found = one_more_by P this q w (is_eq (nat_cmp k q)) refl (told q) found (before q w)

  kept_by : (q : ℕ) (w : V) (is : Bool) → get nat_cmp old k ≡ None → is_eq (nat_cmp k q) ≡ is → get nat_cmp new q ≡ cond is (Some v) (get nat_cmp old q) → get nat_cmp old q ≡ Some w → get nat_cmp new q ≡ Some w
  kept_by q w true absent e is found = absurd (none_some w (sym absent ∙ (ap (get nat_cmp old) (same_key k q e) ∙ found)))
  kept_by q w false absent e is found = is ∙ found

  -- entries stay where another is added
  pub all_kept : get nat_cmp old k ≡ None → (q : ℕ) (w : V) → get nat_cmp old q ≡ Some w → get nat_cmp new q ≡ Some w
  all_kept absent q w found = kept_by q w (is_eq (nat_cmp k q)) absent refl (told q) found

-- ---- words

bit_one : (a : ℕ) → nat_eq a 1 ≡ true → a ≡ 1
bit_one a e = grind (arith, nat_tests)

bit_none : (a : ℕ) → a ≡ 0 → nat_eq a 1 ≡ false
bit_none a e = grind (arith, nat_tests)

module _ (taken : List ℕ) (i bits : ℕ) (within : i < length taken) where
  abbrev joined : ℕ
  joined = bit_or (get_or taken i 0) bits

  at_word : (n : ℕ) → i ≡ n / 64 → has_bit (set taken i joined) n ≡ nat_eq (bit_at joined (n % 64)) 1
  unfolding has_bit
  at_word n here = ap (λ w. nat_eq (bit_at w (n % 64)) 1) (ap (λ k. get_or (set taken i joined) k 0) (sym here) ∙ get_or-set_same taken i joined 0 within)

  pub bits_added : (n : ℕ) → i ≡ n / 64 → bit_at bits (n % 64) ≡ 1 → has_bit (set taken i joined) n ≡ true
  bits_added n here one =
      at_word n here ∙ eq-eqb (bit_at joined (n % 64)) 1 (let e : bit_at joined (n % 64) ≡ 1 = omega (arith, bit_at_or (get_or taken i 0) bits (n % 64), bit_at-lt (get_or taken i 0) (n % 64), one) in e)

  pub bits_still : (n : ℕ) → has_bit taken n ≡ true → has_bit (set taken i joined) n ≡ true
  unfolding has_bit
  bits_still n had = elim (cases_eq (n / 64) i) [
    | inl here ↦
        (let one : bit_at (get_or taken i 0) (n % 64) ≡ 1 = bit_one _ (subst (λ k. nat_eq (bit_at (get_or taken k 0) (n % 64)) 1 ≡ true) here had) in
        at_word n (sym here) ∙ eq-eqb (bit_at joined (n % 64)) 1 (let e : bit_at joined (n % 64) ≡ 1 = omega (arith, bit_at_or (get_or taken i 0) bits (n % 64), bit_at-lt bits (n % 64), one) in e))
    | inr far ↦ ap (λ w. nat_eq (bit_at w (n % 64)) 1) (get_or-set_other taken i (n / 64) joined 0 far) ∙ had
  ]

  pub bits_free : bit_and (get_or taken i 0) bits ≡ 0 → (n : ℕ) → i ≡ n / 64 → bit_at bits (n % 64) ≡ 1 → has_bit taken n ≡ false
  unfolding has_bit
  bits_free none n here one =
      let zero_bit : bit_at (bit_and (get_or taken i 0) bits) (n % 64) ≡ 0 = ap (λ w. bit_at w (n % 64)) none ∙ bit_at-zero (n % 64) in
      let least : bit_at (get_or taken i 0) (n % 64) ≡ 0 = omega (arith, bit_at_and (get_or taken i 0) bits (n % 64), zero_bit, one) in
      bit_none _ (ap (λ k. bit_at (get_or taken k 0) (n % 64)) (sym here) ∙ least)

-- a word with a number more
pub bit_kept : (bits more i : ℕ) → bit_at bits i ≡ 1 → bit_at (bit_or bits more) i ≡ 1
bit_kept bits more i one = omega (arith, bit_at_or bits more i, bit_at-lt more i, one)

-- ---- some words

-- among words and one more: among the words, or in the one
pub among_more : (words : List Word) (from end n : ℕ) → IsAmong words from (end + 1) n → IsAmong words from end n ⊎ ((w : Word) × (slice_get words end ≡ Some w) × IsIn w n)
among_more words from end n among = elim (below_or_same among.0 end among.3) [
  | inl less ↦ inl (among.0, among.1, among.2, less, among.4, among.5)
  | inr same ↦ inr (among.1, subst (λ k. slice_get words k ≡ Some among.1) same among.4, among.5)
]

pub none_among : (words : List Word) (from n : ℕ) → IsAmong words from from n → ⊥
none_among words from n among = omega (arith, among.2, among.3)

-- what is in a list stands in a longer one
pub in_longer : {A : Type 0} (xs ys : List A) (k : ℕ) (x : A) → slice_get xs k ≡ Some x → slice_get (xs ++ ys) k ≡ Some x
in_longer [] ys k x e = absurd (none_some x e)
in_longer (y ∷ xs) ys zero x e = e
in_longer (y ∷ xs) ys (suc k) x e = in_longer xs ys k x e

pub last_there : {A : Type 0} (xs : List A) (y : A) → slice_get (xs ++ y ∷ []) (length xs) ≡ Some y
last_there [] y = refl
last_there (x ∷ xs) y = last_there xs y

pub still_among : (old new : List Word) (from end more n : ℕ) → KeepsWords old new → end ≤ more → IsAmong old from end n → IsAmong new from more n
still_among old new from end more n kept le among = (among.0, among.1, among.2, omega (arith, among.3, le), kept among.0 among.1 among.4, among.5)

-- the last of some words
pub among_last : (words : List Word) (w : Word) (from n : ℕ) → from ≤ length words → IsIn w n → IsAmong (words ++ w ∷ []) from (length (words ++ w ∷ [])) n
among_last words w from n le is = (length words, w, le, omega (arith, length-append words (w ∷ [])), last_there words w, is)

pub kept_both : (a b c : List Word) → KeepsWords a b → KeepsWords b c → KeepsWords a c
kept_both a b c p q k w e = q k w (p k w e)

pub among_from : (words : List Word) (from later end n : ℕ) → from ≤ later → IsAmong words later end n → IsAmong words from end n
among_from words from later end n le among = (among.0, among.1, omega (arith, among.2, le), among.3, among.4, among.5)

-- ---- words that are added

-- a number more is among the words, or in the one that is not added yet
pub all_more : (numbers : List ℕ) (place start : ℕ) (old new : List Word) (word w : Word) → KeepsWords old new → start ≤ length old → length old ≤ length new → IsIn w (get_or numbers place 0)
    → ((n : ℕ) → IsIn word n → IsIn w n ⊎ IsAmong new (length old) (length new) n)
    → ((k : ℕ) → k < place → IsAmong old start (length old) (get_or numbers k 0) ⊎ IsIn word (get_or numbers k 0))
    → (k : ℕ) → k < place + 1 → IsAmong new start (length new) (get_or numbers k 0) ⊎ IsIn w (get_or numbers k 0)
all_more numbers place start old new word w kept le longer this still before k lt = elim (below_or_same k place lt) [
  | inl less ↦ elim (before k less) [
    | inl among ↦ inl (still_among old new start (length old) (length new) (get_or numbers k 0) kept longer among)
    | inr inside ↦ elim (still (get_or numbers k 0) inside) [
      | inl here ↦ inr here
      | inr among ↦ inl (among_from new start (length old) (length new) (get_or numbers k 0) le among)
    ]
  ]
  | inr same ↦ inr (subst (λ j. IsIn w (get_or numbers j 0)) (sym same) this)
]

-- all are among the words where the last is added
pub all_among : (numbers : List ℕ) (end start : ℕ) (old new : List Word) (word : Word) → new ≡ old ++ word ∷ [] → start ≤ length old → length numbers ≤ end
    → ((k : ℕ) → k < end → IsAmong old start (length old) (get_or numbers k 0) ⊎ IsIn word (get_or numbers k 0))
    → (n : ℕ) → Contains numbers n → IsAmong new start (length new) n
all_among numbers end start old new word is le past all n there =
    let same : get_or numbers there.0 0 ≡ n = get_or_default numbers there.0 0 n there.1 ∙ there.2 in
    let last : List Word = old ++ word ∷ [] in
    let longer : length old ≤ length last = omega (arith, length-append old (word ∷ [])) in
    let among : IsAmong last start (length last) (get_or numbers there.0 0) = elim (all there.0 (omega (arith, there.1, past))) [
      | inl before ↦ still_among old last start (length old) (length last) (get_or numbers there.0 0) (in_longer old (word ∷ [])) longer before
      | inr inside ↦ among_last old word start (get_or numbers there.0 0) le inside
    ] in
    subst (λ k. IsAmong new start (length new) k) same (subst (λ ws. IsAmong ws start (length ws) (get_or numbers there.0 0)) (sym is) among)

-- ---- words that are taken

not_before : (old now : List ℕ) (n : ℕ) → KeepsBits old now → has_bit now n ≡ false → has_bit old n ≡ false
not_before old now n kept none = by_test (has_bit old n) refl
  where
    by_test : (is : Bool) → has_bit old n ≡ is → has_bit old n ≡ false
    by_test true e = absurd (true≢false (sym (kept n e) ∙ none))
    by_test false e = e

-- the words before and one more are taken, and were not
pub part_more : (words : List Word) (from place : ℕ) (w : Word) (old now new : List ℕ) → slice_get words place ≡ Some w → KeepsBits old now → KeepsBits now new
    → ((n : ℕ) → IsIn w n → (has_bit new n ≡ true) × (has_bit now n ≡ false))
    → ((n : ℕ) → IsAmong words from place n → (has_bit now n ≡ true) × (has_bit old n ≡ false))
    → (n : ℕ) → IsAmong words from (place + 1) n → (has_bit new n ≡ true) × (has_bit old n ≡ false)
part_more words from place w old now new at earlier later this before n among = elim (among_more words from place n among) [
  | inl less ↦ (later n (before n less).0, (before n less).1)
  | inr one ↦
      (let is : IsIn w n = subst (λ x. IsIn x n) (same_Some one.0 w (sym one.1 ∙ at)) one.2 in
      ((this n is).0, not_before old now n earlier (this n is).1))
]

-- ---- varyings, one after the other

takes_here : (flags : ValidationFlags) (vs : List Varying) (k place mark : ℕ) (v : Varying) → slice_get vs place ≡ Some v → k ≡ place → TakesAt flags vs k mark → Takes flags v.bound mark
takes_here flags vs k place mark v at same takes = subst (λ (x : Varying). Takes flags x.bound mark) (same_Some takes.0 v (sym takes.1 ∙ (ap (slice_get vs) same ∙ at))) takes.2

-- what those before and one more take has numbers that are found
pub found_more : (flags : ValidationFlags) (vs : List Varying) (place : ℕ) (v : Varying) (old new : BTreeMap ℕ ℕ) (found more : List ℕ) → slice_get vs place ≡ Some v → KeepsNumbers old new
    → ((n : ℕ) → Contains found n → Contains more n)
    → ((mark : ℕ) → Takes flags v.bound mark → (n : ℕ) × IsNumber new mark n × Contains more n)
    → ((k mark : ℕ) → k < place → TakesAt flags vs k mark → (n : ℕ) × IsNumber old mark n × Contains found n)
    → (k mark : ℕ) → k < place + 1 → TakesAt flags vs k mark → (n : ℕ) × IsNumber new mark n × Contains more n
found_more flags vs place v old new found more at kept still this before k mark lt takes = elim (below_or_same k place lt) [
  | inl less ↦ (let was = before k mark less takes in (was.0, kept mark was.0 was.1, still was.0 was.2))
  | inr same ↦ this mark (takes_here flags vs k place mark v at same takes)
]

-- what those before and one more take is taken, and was not
pub taken_more : (flags : ValidationFlags) (vs : List Varying) (place : ℕ) (v : Varying) (numbers more : BTreeMap ℕ ℕ) (old now new : List ℕ) → slice_get vs place ≡ Some v → KeepsNumbers numbers more
    → KeepsBits old now → KeepsBits now new
    → ((mark : ℕ) → Takes flags v.bound mark → (n : ℕ) × IsNumber more mark n × (has_bit new n ≡ true) × (has_bit now n ≡ false))
    → ((k mark : ℕ) → k < place → TakesAt flags vs k mark → (n : ℕ) × IsNumber numbers mark n × (has_bit now n ≡ true) × (has_bit old n ≡ false))
    → (k mark : ℕ) → k < place + 1 → TakesAt flags vs k mark → (n : ℕ) × IsNumber more mark n × (has_bit new n ≡ true) × (has_bit old n ≡ false)
taken_more flags vs place v numbers more old now new at kept earlier later this before k mark lt takes = elim (below_or_same k place lt) [
  | inl less ↦ (let was = before k mark less takes in (was.0, kept mark was.0 was.1, later was.0 was.2, was.3))
  | inr same ↦ (let is = this mark (takes_here flags vs k place mark v at same takes) in (is.0, is.1, is.2, not_before old now is.0 earlier is.3))
]

-- what is not past the last is before the end
pub below_end : (vs : List Varying) (k end mark : ℕ) (flags : ValidationFlags) → length vs ≤ end → TakesAt flags vs k mark → k < end
below_end vs k end mark flags past takes = (let within = slice_get_within vs k takes.0 takes.1 in omega (arith, within, past))

-- ---- parts

pub part_still : (flags : ValidationFlags) (old new : BTreeMap ℕ ℕ) (words more : List Word) (vs : List Varying) (p : Part) → KeepsNumbers old new → KeepsWords words more → length words ≤ length more
    → IsPartOf flags old words vs p → IsPartOf flags new more vs p
part_still flags old new words more vs p kept kept_words le part = record {
  within = omega (arith, part.within, le);
  numbered = λ place mark takes. (let at = part.numbered place mark takes in (at.0, kept mark at.0 at.1, still_among words more p.from p.end p.end at.0 kept_words (omega arith) at.2));
}

-- parts that are noted stay so where numbers and words are added
pub marks_still : (flags : ValidationFlags) (types : List PlainType) (parts : BTreeMap ℕ Part) (old new : BTreeMap ℕ ℕ) (words more : List Word) → KeepsNumbers old new → KeepsWords words more → length words ≤ length more
    → ((type : ℕ) (p : Part) → get nat_cmp parts type ≡ Some p → IsPartOf flags old words (mesh_varyings types type) p)
    → (type : ℕ) (p : Part) → get nat_cmp parts type ≡ Some p → IsPartOf flags new more (mesh_varyings types type) p
marks_still flags types parts old new words more kept kept_words le known type p found = part_still flags old new words more (mesh_varyings types type) p kept kept_words le (known type p found)

-- what a part's words have is taken, so what the varyings take is
pub newly_by_part : (flags : ValidationFlags) (numbers : BTreeMap ℕ ℕ) (words : List Word) (vs : List Varying) (p : Part) (old new : List ℕ) → IsPartOf flags numbers words vs p
    → ((n : ℕ) → IsAmong words p.from p.end n → (has_bit new n ≡ true) × (has_bit old n ≡ false)) → AreNewlyTaken flags numbers old new vs
newly_by_part flags numbers words vs p old new part taken place mark takes = (let at = part.numbered place mark takes in (at.0, at.1, (taken at.0 at.2).0, (taken at.0 at.2).1))

-- numbers are found for all that varyings take, and words for all numbers
pub part_made : (flags : ValidationFlags) (numbers : BTreeMap ℕ ℕ) (words : List Word) (vs : List Varying) (p : Part) (start : ℕ) (found : List ℕ) → p.from ≡ start → p.end ≡ length words
    → ((place mark : ℕ) → TakesAt flags vs place mark → (n : ℕ) × IsNumber numbers mark n × Contains found n)
    → ((n : ℕ) → Contains found n → IsAmong words start (length words) n) → IsPartOf flags numbers words vs p
part_made flags numbers words vs p start found from end all among = record {
  within = omega (arith, end);
  numbered = λ place mark takes.
      (let at = all place mark takes in
      (at.0, at.1, subst (λ k. IsAmong words k p.end at.0) (sym from) (subst (λ k. IsAmong words start k at.0) (sym end) (among at.0 at.2))));
}
