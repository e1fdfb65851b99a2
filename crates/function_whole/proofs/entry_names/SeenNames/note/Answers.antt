use Rattle.std.proofs.Common.{◌≡◌, ℕ, List, subst, string_bytes}
use Rattle.std.specs.Prelude.{◌↔◌, IsTrue, if◌then◌else◌, not, true}
use Rattle.std.proofs.lemmas.Result.{on_ok_weaker}
use Rattle.std.specs.BTreeSet.{contains_text}
use Rattle.std.specs.Str.{bytes_eq}
use Rattle.function_whole.proofs.NameLaws.{fresh_if, if_ok_as, seen_more}
use Rattle.function_whole.specs.EntryNames.{key_of}
use Rattle.ir_items.specs.found.View.{entry_view}
use Rattle.function_whole.proofs.entry_names.SeenNames.note.Goals as goal

pub returns-clause-fresh : goal.returns-clause-fresh
returns-clause-fresh c =
    let e = entry_view c.args.entry.now in
    let old = contains_text c.args.self.now.keys in
    if_ok_as (λ fresh. fresh ≡ not (old (string_bytes c.in_ok-key.key))) (λ fresh. IsTrue fresh ↔ (IsTrue (old (key_of e.stage e.name)) → ⊥))
    (λ fresh is. fresh_if fresh (old (key_of e.stage e.name)) (subst (λ k. fresh ≡ not (old k)) c.in_ok-key.ensures is)) c.note_key.result c.note_key.ensures.fresh

pub returns-clause-noted : goal.returns-clause-noted
returns-clause-noted c =
    let e = entry_view c.args.entry.now in
    let old = contains_text c.args.self.now.keys in
    let new = contains_text c.note_key.new.keys in
    on_ok_weaker c.note_key.result
    (λ (told : (bs : List ℕ) → new bs ≡ (if bytes_eq (string_bytes c.in_ok-key.key) bs then true else old bs)). seen_more old new e.stage e.name
    (subst (λ k. (bs : List ℕ) → new bs ≡ (if bytes_eq k bs then true else old bs)) c.in_ok-key.ensures told)) c.note_key.ensures.noted
