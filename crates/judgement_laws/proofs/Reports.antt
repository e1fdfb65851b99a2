-- The reports of modules that differ only in returns are equal.
use Rattle.std.proofs.Common.{ℕ, List, sym, ap, subst, ◌∙◌}
use Rattle.std.specs.Prelude.{◌<◌, ◌++◌, length, flat_map}
use Rattle.ir_items.specs.judged.Plain.{PlainEntry, PlainModule}
use Rattle.judgement.specs.judged.Lines.{buffers, is_own, entry_lines}
use Rattle.judgement.specs.judged.Reports.{AreUses, ArePairs, IsEntryReport, IsReport}
use Rattle.judgement_laws.specs.judged.Like.{LikeEntry, LikeModule}
use Rattle.judgement_laws.specs.found.ReturnLaws.{ReturnsKeepReport}
use Rattle.judgement_laws.proofs.Likeness.{function_back, module_back, like_returned}
use Rattle.judgement_laws.proofs.Calls.{use_moves, pair_moves}

uses_move : (m n : PlainModule) (x y : PlainEntry) → LikeModule m n → LikeEntry x y → (uses : _) → AreUses m x uses → AreUses n y uses
uses_move m n x y l k uses u = record {
  many = u.many ∙ sym (ap (λ z. length z.globals) l.rest);
  exact = λ g bit within own.
      (let was = u.exact g bit (subst (λ w. g < length w) (ap (λ z. z.globals) l.rest) within) (sym (ap (λ z. is_own z g) k.rest) ∙ own) in
      (λ has. use_moves l k.function g bit (was.0 has), λ has. was.1 (use_moves (module_back l) (function_back k.function) g bit has)));
}

pairs_move : (m n : PlainModule) (x y : PlainEntry) → LikeModule m n → LikeEntry x y → (pairs : _) → ArePairs m x pairs → ArePairs n y pairs
pairs_move m n x y l k pairs p = record {
  ordered = p.ordered;
  exact = λ image sampler.
      (let was = p.exact image sampler in
      (λ among. pair_moves l k.function _ (was.0 among), λ has. was.1 (pair_moves (module_back l) (function_back k.function) _ has)));
}

entry_report_moves : (m n : PlainModule) (x y : PlainEntry) → LikeModule m n → LikeEntry x y → (number : ℕ) (lines : List ℕ) → IsEntryReport m number x lines → IsEntryReport n number y lines
entry_report_moves m n x y l k number lines r = record {
  uses = r.uses;
  pairs = r.pairs;
  are_uses = uses_move m n x y l k r.uses r.are_uses;
  are_pairs = pairs_move m n x y l k r.pairs r.are_pairs;
  told = r.told ∙ sym (ap (λ z. entry_lines number z r.uses r.pairs) k.rest);
}

pub report_moves : (m n : PlainModule) → LikeModule m n → (text : List ℕ) → IsReport m text → IsReport n text
report_moves m n l text r = record {
  entries = r.entries;
  are_entries = record {
    many = r.are_entries.many ∙ l.entries.many;
    each = λ number y lines at told.
        (let x = l.entries.back number y at in entry_report_moves m n x.0 y l x.2 number lines (r.are_entries.each number x.0 lines x.1 told));
  };
  told = r.told ∙ sym (ap (λ z. buffers z ++ flat_map (λ lines. lines) r.entries) l.rest);
}

pub returns_keep_report : ReturnsKeepReport
returns_keep_report d m none r text =
    let l = like_returned d m none r in
    (report_moves d m l text, report_moves m d (module_back l) text)
