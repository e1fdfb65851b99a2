use Rattle.std.proofs.Common.{◌++◌, string_bytes}
use Rattle.judgement.specs.judged.Text.{text_of}
use Rattle.shader_check.proofs.Expected.{expected, expected_for, without_results, verdict_is, sound_answer, sound_of}
use Rattle.shader_check.proofs.check.check_document.Goals as goal

pub returns-in_err-write_text-clause-write_prefix : goal.returns-in_err-write_text-clause-write_prefix
returns-in_err-write_text-clause-write_prefix g c = λ _.
    let judged = c.in_ok-judgement.ensures in
    record {
      text = text_of c.in_ok-judgement.judgement.finding ++ string_bytes c.in_ok-judgement.judgement.report;
      expected = expected_for _ _ c.in_ok-bytes.bytes.items _ c.in_ok-bytes.ensures.ok judged;
      received = rw (← c.in_ok-text.ensures) (rw (← c.as_bytes.ensures.value) c.in_err-write_text.ensures.front);
    }

pub returns-clause-ok : goal.returns-clause-ok
returns-clause-ok g c =
    let judged = c.in_ok-judgement.ensures in
    record {
      text = text_of c.in_ok-judgement.judgement.finding ++ string_bytes c.in_ok-judgement.judgement.report;
      expected = expected_for _ _ c.in_ok-bytes.bytes.items _ c.in_ok-bytes.ensures.ok judged;
      received = rw (← c.in_ok-text.ensures) (rw (← c.as_bytes.ensures.value) c.in_ok-write_text.ensures.ok);
      verdict_is = rw c.verdict_of.ensures (verdict_is c.in_ok-judgement.judgement.finding (string_bytes c.in_ok-judgement.judgement.report));
      sound = rw c.verdict_of.ensures (sound_answer _ _ c.in_ok-bytes.bytes.items _ c.in_ok-bytes.ensures.ok judged);
    }

pub returns-clause-ok_calls : goal.returns-clause-ok_calls
returns-clause-ok_calls g c =
    let judged = c.in_ok-judgement.ensures in
    record {
      text = text_of c.in_ok-judgement.judgement.finding ++ string_bytes c.in_ok-judgement.judgement.report;
      expected = record {
        given = c.in_ok-bytes.bytes.items;
        read = c.in_ok-bytes.ensures.ok_calls;
        expected = expected c.in_ok-judgement.judgement.finding (string_bytes c.in_ok-judgement.judgement.report) c.in_ok-bytes.bytes.items judged.finding judged.told;
        without_results = without_results c.in_ok-bytes.bytes.items c.in_ok-judgement.judgement judged;
      };
      written = rw (← c.in_ok-text.ensures) (rw (← c.as_bytes.ensures.value) c.in_ok-write_text.ensures.ok_calls);
      verdict_is = rw c.verdict_of.ensures (verdict_is c.in_ok-judgement.judgement.finding (string_bytes c.in_ok-judgement.judgement.report));
      sound = rw c.verdict_of.ensures (sound_of c.in_ok-bytes.bytes.items _ judged);
    }

pub returns-in_err-write_text-clause-write_calls : goal.returns-in_err-write_text-clause-write_calls
returns-in_err-write_text-clause-write_calls g c = λ _.
    let judged = c.in_ok-judgement.ensures in
    record {
      text = text_of c.in_ok-judgement.judgement.finding ++ string_bytes c.in_ok-judgement.judgement.report;
      expected = record {
        given = c.in_ok-bytes.bytes.items;
        read = c.in_ok-bytes.ensures.ok_calls;
        expected = expected c.in_ok-judgement.judgement.finding (string_bytes c.in_ok-judgement.judgement.report) c.in_ok-bytes.bytes.items judged.finding judged.told;
        without_results = without_results c.in_ok-bytes.bytes.items c.in_ok-judgement.judgement judged;
      };
      written = rw (← c.in_ok-text.ensures) (rw (← c.as_bytes.ensures.value) c.in_err-write_text.ensures.err_calls);
    }
