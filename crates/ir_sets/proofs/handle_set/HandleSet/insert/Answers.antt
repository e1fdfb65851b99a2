use Rattle.std.proofs.Common.{◌≡◌, true, false, length, refl, ap, ◌∙◌, nat_eq, ◌||◌}
use Rattle.std.proofs.lemmas.List.{with_items_is}
use Rattle.ir_sets.specs.Bits.{has_bit}
use Rattle.ir_sets.proofs.Members.{contains-members, inserted_members, already_member, OnErr-always, words_with}
use Rattle.ir_sets.proofs.handle_set.HandleSet.insert.Goals as goal

pub returns-then-contains-clause-added : goal.returns-then-contains-clause-added
returns-then-contains-clause-added g c =
    let is = contains-members c.self.inside.words.items c.index-place.result in
    let one : has_bit c.self.inside.words.items c.index-place.result ≡ true = cc (c.if-contains.ensures, c.deref.ensures.value) in
    rw (← c.self.view_is, ← c.index-place.ensures.value, is, one) refl

pub returns-then-contains-clause-ok : goal.returns-then-contains-clause-ok
returns-then-contains-clause-ok g c =
    let one : has_bit c.self.inside.words.items c.index-place.result ≡ true = cc (c.if-contains.ensures, c.deref.ensures.value) in
    rw (← c.self.view_is, ← c.index-place.ensures.value) (already_member c.self.inside.words.items c.index-place.result one)

pub returns-in_err-reserve-clause-err_absent : goal.returns-in_err-reserve-clause-err_absent
returns-in_err-reserve-clause-err_absent g c =
    let is = contains-members c.self.inside.words.items c.index-place.result in
    let none : has_bit c.self.inside.words.items c.index-place.result ≡ false = cc (c.if-contains.ensures, c.deref.ensures.value) in
    rw (← c.self.view_is, ← c.index-place.ensures.value, is, none) (OnErr-always c.from_residual.result refl)

pub returns-clause-added : goal.returns-clause-added
returns-clause-added g c =
    let is = contains-members c.self.inside.words.items c.index-place.result in
    let none : has_bit c.self.inside.words.items c.index-place.result ≡ false = cc (c.if-contains.ensures, c.deref.ensures.value) in
    rw (← c.self.view_is, ← c.index-place.ensures.value, is, none) refl

pub returns-clause-ok : goal.returns-clause-ok
returns-clause-ok g c =
    let old = c.self.inside.words.items in
    let new = c.insert.new.words in
    let n = c.index-place.result in
    let items = with_items_is c.reserve.new.words new (c.insert.ensures.len ∙ c.deref_mut.ensures.len) in
    rw (← c.self.view_is, ← c.index-place.ensures.value, items)
    (inserted_members old new n
    (λ q. c.insert.ensures.bits q ∙ ap (λ words. nat_eq q n || has_bit words q) c.deref_mut.ensures.value ∙ ap (λ b. nat_eq q n || b) (c.in_ok-reserve.ensures.bits q)))

pub invariant_of-self-2 : goal.invariant_of-self-2
invariant_of-self-2 g c =
    let old = c.self.inside.words.items in
    let new = c.insert.new.words in
    let n = c.index-place.result in
    let items = with_items_is c.reserve.new.words new (c.insert.ensures.len ∙ c.deref_mut.ensures.len) in
    rw items
    (words_with old new n c.self.invariant c.index-place.ensures.in_range
    (c.insert.ensures.len ∙ ap length c.deref_mut.ensures.value ∙ c.in_ok-reserve.ensures.len)
    (λ q. c.insert.ensures.bits q ∙ ap (λ words. nat_eq q n || has_bit words q) c.deref_mut.ensures.value ∙ ap (λ b. nat_eq q n || b) (c.in_ok-reserve.ensures.bits q)))
