use Rattle.std.proofs.Common.{◌≡◌, ◌≤◌, ◌&&◌, ℕ, true, false, not, nat_eq, length, refl, ap, ◌∙◌, arith}
use Rattle.std.proofs.lemmas.List.{with_items_is}
use Rattle.ir_sets.specs.Bits.{has_bit}
use Rattle.ir_sets.proofs.Members.{contains-members, removed_members, no_member, words_without}
use Rattle.ir_sets.proofs.handle_set.HandleSet.remove.Goals as goal

pub returns-then-not-contains-clause-removed : goal.returns-then-not-contains-clause-removed
returns-then-not-contains-clause-removed g c =
    let is = contains-members c.self.inside.words.items c.index-place.result in
    let none : has_bit c.self.inside.words.items c.index-place.result ≡ false = cc (c.if-not-contains.ensures, c.deref.ensures.value) in
    rw (← c.self.view_is, ← c.index-place.ensures.value, is, none) refl

pub returns-then-not-contains-clause-members : goal.returns-then-not-contains-clause-members
returns-then-not-contains-clause-members g c =
    let none : has_bit c.self.inside.words.items c.index-place.result ≡ false = cc (c.if-not-contains.ensures, c.deref.ensures.value) in
    rw (← c.self.view_is, ← c.index-place.ensures.value) (no_member c.self.inside.words.items c.index-place.result none)

pub returns-clause-removed : goal.returns-clause-removed
returns-clause-removed g c =
    let is = contains-members c.self.inside.words.items c.index-place.result in
    let one : has_bit c.self.inside.words.items c.index-place.result ≡ true = cc (c.if-not-contains.ensures, c.deref.ensures.value) in
    rw (← c.self.view_is, ← c.index-place.ensures.value, is, one) refl

pub returns-clause-members : goal.returns-clause-members
returns-clause-members g c =
    let old = c.self.inside.words.items in
    let now = c.remove.new.words in
    let new = c.trim.new.words.items in
    let n = c.index-place.result in
    let items = with_items_is c.self.inside.words now (c.remove.ensures.len ∙ c.deref_mut.ensures.len) in
    let bits : (q : ℕ) → has_bit new q ≡ (not (nat_eq q n) && has_bit old q) =
    λ q. (rw items at c.trim.ensures.bits q) ∙ c.remove.ensures.bits q ∙ ap (λ words. not (nat_eq q n) && has_bit words q) c.deref_mut.ensures.value in
    rw (← c.self.view_is, ← c.index-place.ensures.value) (removed_members old new n bits)

pub invariant_of-self : goal.invariant_of-self
invariant_of-self g c =
    let old = c.self.inside.words.items in
    let now = c.remove.new.words in
    let new = c.trim.new.words.items in
    let n = c.index-place.result in
    let items = with_items_is c.self.inside.words now (c.remove.ensures.len ∙ c.deref_mut.ensures.len) in
    let bits : (q : ℕ) → has_bit new q ≡ (not (nat_eq q n) && has_bit old q) =
    λ q. (rw items at c.trim.ensures.bits q) ∙ c.remove.ensures.bits q ∙ ap (λ words. not (nat_eq q n) && has_bit words q) c.deref_mut.ensures.value in
    let less : length new ≤ length now = rw items at c.trim.ensures.shorter in
    let same : length now ≡ length old = c.remove.ensures.len ∙ ap length c.deref_mut.ensures.value in
    words_without old new n c.self.invariant c.trim.ensures.trimmed (omega arith) bits
