use Rattle.std.proofs.Common.{◌≡◌, ◌≤◌, ◌&&◌, ℕ, not, nat_eq, length, ap, ◌∙◌, arith, rules}
use Rattle.std.proofs.lemmas.List.{with_items_is}
use Rattle.ir_sets.specs.Bits.{has_bit}
use Rattle.ir_sets.proofs.Members.{no_members, popped, words_without}
use Rattle.ir_sets.proofs.handle_set.HandleSet.pop.Goals as goal

pub invariant_of-self : goal.invariant_of-self
invariant_of-self g c =
    let old = c.self.inside.words.items in
    let now = c.remove.new.words in
    let new = c.trim.new.words.items in
    let n = c.in_ok-place.place in
    let items = with_items_is c.self.inside.words now (c.remove.ensures.len ∙ c.deref_mut.ensures.len) in
    let bits : (q : ℕ) → has_bit new q ≡ (not (nat_eq q n) && has_bit old q) =
    λ q. (rw items at c.trim.ensures.bits q) ∙ c.remove.ensures.bits q ∙ ap (λ words. not (nat_eq q n) && has_bit words q) c.deref_mut.ensures.value in
    let less : length new ≤ length now = rw items at c.trim.ensures.shorter in
    let same : length now ≡ length old = c.remove.ensures.len ∙ ap length c.deref_mut.ensures.value in
    words_without old new n c.self.invariant c.trim.ensures.trimmed (omega arith) bits

pub returns-in_err-place-clause-empty : goal.returns-in_err-place-clause-empty
returns-in_err-place-clause-empty g c =
    let none = no_members c.self.inside.words.items (rw c.deref.ensures.value at c.in_err-place.ensures.none) in
    rw (c.from_residual.ensures, ← c.self.view_is) (λ _. none, λ _. search rules)

pub returns-clause-empty : goal.returns-clause-empty
returns-clause-empty g c =
    let old = c.self.inside.words.items in
    let now = c.remove.new.words in
    let new = c.trim.new.words.items in
    let n = c.in_ok-place.place in
    let items = with_items_is c.self.inside.words now (c.remove.ensures.len ∙ c.deref_mut.ensures.len) in
    let bits : (q : ℕ) → has_bit new q ≡ (not (nat_eq q n) && has_bit old q) =
    λ q. (rw items at c.trim.ensures.bits q) ∙ c.remove.ensures.bits q ∙ ap (λ words. not (nat_eq q n) && has_bit words q) c.deref_mut.ensures.value in
    let top = rw c.deref.ensures.value at c.in_ok-place.ensures.some in
    let p = popped old new n top bits in
    (λ e. absurd (cc), λ e. absurd (p.some (c.self.view_is ∙ e)))

pub returns-clause-member : goal.returns-clause-member
returns-clause-member g c =
    let old = c.self.inside.words.items in
    let now = c.remove.new.words in
    let new = c.trim.new.words.items in
    let n = c.in_ok-place.place in
    let items = with_items_is c.self.inside.words now (c.remove.ensures.len ∙ c.deref_mut.ensures.len) in
    let bits : (q : ℕ) → has_bit new q ≡ (not (nat_eq q n) && has_bit old q) =
    λ q. (rw items at c.trim.ensures.bits q) ∙ c.remove.ensures.bits q ∙ ap (λ words. not (nat_eq q n) && has_bit words q) c.deref_mut.ensures.value in
    let top = rw c.deref.ensures.value at c.in_ok-place.ensures.some in
    let p = popped old new n top bits in
    rw (← c.self.view_is, c.at.ensures) p.member

pub returns-clause-greatest : goal.returns-clause-greatest
returns-clause-greatest g c =
    let old = c.self.inside.words.items in
    let now = c.remove.new.words in
    let new = c.trim.new.words.items in
    let n = c.in_ok-place.place in
    let items = with_items_is c.self.inside.words now (c.remove.ensures.len ∙ c.deref_mut.ensures.len) in
    let bits : (q : ℕ) → has_bit new q ≡ (not (nat_eq q n) && has_bit old q) =
    λ q. (rw items at c.trim.ensures.bits q) ∙ c.remove.ensures.bits q ∙ ap (λ words. not (nat_eq q n) && has_bit words q) c.deref_mut.ensures.value in
    let top = rw c.deref.ensures.value at c.in_ok-place.ensures.some in
    let p = popped old new n top bits in
    rw (← c.self.view_is, c.at.ensures) p.greatest

pub returns-clause-rest : goal.returns-clause-rest
returns-clause-rest g c =
    let old = c.self.inside.words.items in
    let now = c.remove.new.words in
    let new = c.trim.new.words.items in
    let n = c.in_ok-place.place in
    let items = with_items_is c.self.inside.words now (c.remove.ensures.len ∙ c.deref_mut.ensures.len) in
    let bits : (q : ℕ) → has_bit new q ≡ (not (nat_eq q n) && has_bit old q) =
    λ q. (rw items at c.trim.ensures.bits q) ∙ c.remove.ensures.bits q ∙ ap (λ words. not (nat_eq q n) && has_bit words q) c.deref_mut.ensures.value in
    let top = rw c.deref.ensures.value at c.in_ok-place.ensures.some in
    let p = popped old new n top bits in
    rw (← c.self.view_is, c.at.ensures) p.removed
