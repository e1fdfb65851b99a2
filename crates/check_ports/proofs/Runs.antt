-- A sequence of calls, with one more call or at its end.
use Rattle.std.proofs.Common.{◌≡◌, ◌≢◌, ◌<◌, ◌≤◌, ◌+◌, ℕ, List, [], ◌∷◌, ◌++◌, length, take, drop, Ok, Err, Result, OnErr, refl, sym, ap, subst, ◌∙◌, inl, inr, arith, append-nil, take-append-drop}
use Rattle.std.proofs.lemmas.List.{take-append-le, take_all}
use Rattle.std.proofs.Math.Seq.{take-add}
use Rattle.std.specs.IoError.{error_kind}
use Rattle.std.specs.declared.io.Error.{Error}
use Rattle.std.specs.declared.io.ErrorKind.TheVariants.{Interrupted}
use Rattle.check_ports.specs.Calls.{Call, passed, Made, Each, PassesSome}
use Rattle.check_ports.specs.Source.{GoesOn, RequiresFor, AreReads, ReadsAll, ReadingFails, ReadingStops}
use Rattle.check_ports.specs.Sink.{TakesNothing, Offers, WritesAll, WritingFails}

-- This many calls of a reader were made, and returned these bytes. Another may follow.
pub record ReadsOn {R : Type 0} (reads : R → R → Call → Type 0) (old new : R) (most count : ℕ) (taken : List ℕ) : Type 0 where
  pub calls : List Call
  pub made : Made reads old new calls
  pub count_is : length calls ≡ count
  pub asked : RequiresFor most calls
  pub going : Each GoesOn calls
  pub taken_is : taken ≡ passed calls

-- no calls yet
pub reads_none : {R : Type 0} (reads : R → R → Call → Type 0) (r : R) (most : ℕ) → ReadsOn reads r r most 0 []
reads_none reads r most = record { calls = []; made = refl; count_is = refl; asked = tt; going = tt; taken_is = refl }

-- the effect of one more call
pub reads_call : {R : Type 0} (reads : R → R → Call → Type 0) (old mid new : R) (most limit count : ℕ) (taken : List ℕ) (answer : Result ℕ Error) (buf : List ℕ)
    → (run : ReadsOn reads old mid most count taken) → count < limit → 0 < length buf → length taken + length buf ≤ most
    → reads mid new (record { answer = answer; buffer = buf })
    → AreReads reads old new most limit (record { answer = answer; buffer = buf } ∷ run.calls)
reads_call reads old mid new most limit count taken answer buf run few some room call = record {
  made = (mid, run.made, call);
  few = let n = run.count_is in omega arith;
  asked = (run.asked, some, subst (λ (xs : List ℕ). length xs + length buf ≤ most) run.taken_is room);
}

-- the call returned bytes
pub reads_more : {R : Type 0} (reads : R → R → Call → Type 0) (old mid new : R) (most count : ℕ) (taken : List ℕ) (n : ℕ) (buf rest : List ℕ)
    → ReadsOn reads old mid most count taken → n ≤ length buf → 0 < n → length taken + length buf ≤ most
    → reads mid new (record { answer = Ok n; buffer = buf })
    → ReadsOn reads old new most (count + 1) (taken ++ take n (buf ++ rest))
reads_more reads old mid new most count taken n buf rest run le some room call = record {
  calls = record { answer = Ok n; buffer = buf } ∷ run.calls;
  made = (mid, run.made, call);
  count_is = let c = run.count_is in omega arith;
  asked = (run.asked, omega arith, subst (λ (xs : List ℕ). length xs + length buf ≤ most) run.taken_is room);
  going = (some, run.going);
  taken_is = rw (take-append-le n buf rest le) (ap (λ xs. xs ++ take n buf) run.taken_is);
}

-- the call was interrupted
pub reads_again : {R : Type 0} (reads : R → R → Call → Type 0) (old mid new : R) (most count : ℕ) (taken : List ℕ) (e : Error) (buf : List ℕ)
    → ReadsOn reads old mid most count taken → error_kind e ≡ Interrupted → 0 < length buf → length taken + length buf ≤ most
    → reads mid new (record { answer = Err e; buffer = buf })
    → ReadsOn reads old new most (count + 1) taken
reads_again reads old mid new most count taken e buf run kind some room call = record {
  calls = record { answer = Err e; buffer = buf } ∷ run.calls;
  made = (mid, run.made, call);
  count_is = let c = run.count_is in omega arith;
  asked = (run.asked, some, subst (λ (xs : List ℕ). length xs + length buf ≤ most) run.taken_is room);
  going = (kind, run.going);
  taken_is = run.taken_is ∙ sym (append-nil (passed run.calls));
}

-- `most` bytes are there
pub reads_full : {R : Type 0} (reads : R → R → Call → Type 0) (old new : R) (most limit count : ℕ) (taken : List ℕ)
    → ReadsOn reads old new most count taken → count < limit → length taken ≡ most → ReadsAll reads old new most limit taken
reads_full reads old new most limit count taken run few full = record {
  calls = run.calls;
  reading = record { made = run.made; few = let c = run.count_is in omega arith; asked = run.asked };
  given_is = run.taken_is;
  stopped = inr (run.going, full);
}

-- the call returned zero bytes
pub reads_end : {R : Type 0} (reads : R → R → Call → Type 0) (old mid new : R) (most limit count : ℕ) (taken : List ℕ) (n : ℕ) (buf : List ℕ)
    → ReadsOn reads old mid most count taken → count < limit → n ≡ 0 → 0 < length buf → length taken + length buf ≤ most
    → reads mid new (record { answer = Ok n; buffer = buf }) → ReadsAll reads old new most limit taken
reads_end reads old mid new most limit count taken n buf run few none some room call =
    let was : reads mid new (record { answer = Ok 0; buffer = buf }) = subst (λ (k : ℕ). reads mid new (record { answer = Ok k; buffer = buf })) none call in
    record {
      calls = record { answer = Ok 0; buffer = buf } ∷ run.calls;
      reading = reads_call reads old mid new most limit count taken (Ok 0) buf run few some room was;
      given_is = run.taken_is ∙ sym (append-nil (passed run.calls));
      stopped = inl (refl, run.going);
    }

-- the call failed
pub reads_fail : {R : Type 0} (reads : R → R → Call → Type 0) (old mid new : R) (most limit count : ℕ) (taken : List ℕ) (e : Error) (buf : List ℕ)
    → ReadsOn reads old mid most count taken → count < limit → error_kind e ≢ Interrupted → 0 < length buf → length taken + length buf ≤ most
    → reads mid new (record { answer = Err e; buffer = buf }) → ReadingFails reads old new most limit
reads_fail reads old mid new most limit count taken e buf run few kind some room call = record {
  calls = record { answer = Err e; buffer = buf } ∷ run.calls;
  reading = reads_call reads old mid new most limit count taken (Err e) buf run few some room call;
  stopped = inl (kind, run.going);
}

-- the maximum number of calls was made
pub reads_too_often : {R : Type 0} (reads : R → R → Call → Type 0) (old new : R) (most limit count : ℕ) (taken : List ℕ)
    → ReadsOn reads old new most count taken → count ≡ limit → ReadingFails reads old new most limit
reads_too_often reads old new most limit count taken run spent = record {
  calls = run.calls;
  reading = record { made = run.made; few = let c = run.count_is in omega arith; asked = run.asked };
  stopped = inr (run.going, run.count_is ∙ spent);
}

-- out of memory for the bytes that the call returned
pub reads_lost : {R : Type 0} (reads : R → R → Call → Type 0) (old mid new : R) (most limit count : ℕ) (taken : List ℕ) (n : ℕ) (buf : List ℕ)
    → ReadsOn reads old mid most count taken → count < limit → 0 < n → 0 < length buf → length taken + length buf ≤ most
    → reads mid new (record { answer = Ok n; buffer = buf }) → ReadingStops reads old new most limit
reads_lost reads old mid new most limit count taken n buf run few gave some room call = record {
  calls = record { answer = Ok n; buffer = buf } ∷ run.calls;
  reading = reads_call reads old mid new most limit count taken (Ok n) buf run few some room call;
  stopped = (gave, run.going);
}

-- This many of these bytes were written, by calls of a writer each of which accepted some.
pub record WritesOn {W : Type 0} (writes : W → W → Call → Type 0) (old new : W) (bytes : List ℕ) (written : ℕ) : Type 0 where
  pub calls : List Call
  pub made : Made writes old new calls
  pub offered : Offers bytes calls
  pub took : Each PassesSome calls
  pub written_is : passed calls ≡ take written bytes

-- no calls yet
pub writes_none : {W : Type 0} (writes : W → W → Call → Type 0) (w : W) (bytes : List ℕ) → WritesOn writes w w bytes 0
writes_none writes w bytes = record { calls = []; made = refl; offered = tt; took = tt; written_is = refl }

-- the bytes that a call is offered
rest_is : (calls : List Call) (bytes : List ℕ) (written : ℕ) → passed calls ≡ take written bytes → bytes ≡ passed calls ++ drop written bytes
rest_is calls bytes written is = sym (ap (λ xs. xs ++ drop written bytes) is ∙ take-append-drop written bytes)

-- the call accepted bytes
pub writes_more : {W : Type 0} (writes : W → W → Call → Type 0) (old mid new : W) (bytes : List ℕ) (written n : ℕ)
    → WritesOn writes old mid bytes written → 0 < n → writes mid new (record { answer = Ok n; buffer = drop written bytes })
    → WritesOn writes old new bytes (written + n)
writes_more writes old mid new bytes written n run some call = record {
  calls = record { answer = Ok n; buffer = drop written bytes } ∷ run.calls;
  made = (mid, run.made, call);
  offered = (run.offered, rest_is run.calls bytes written run.written_is);
  took = (some, run.took);
  written_is = ap (λ xs. xs ++ take n (drop written bytes)) run.written_is ∙ sym (take-add written n bytes);
}

-- everything is written
pub writes_all : {W : Type 0} (writes : W → W → Call → Type 0) (old new : W) (bytes : List ℕ) (written : ℕ)
    → WritesOn writes old new bytes written → length bytes ≤ written → WritesAll writes old new bytes
writes_all writes old new bytes written run whole = record {
  calls = run.calls;
  made = run.made;
  offered = run.offered;
  took = run.took;
  whole = run.written_is ∙ take_all written bytes whole;
}

-- the call accepted zero bytes
pub writes_fail : {W : Type 0} (writes : W → W → Call → Type 0) (old mid new : W) (bytes : List ℕ) (written : ℕ) (c : Call)
    → WritesOn writes old mid bytes written → c.buffer ≡ drop written bytes → TakesNothing c → writes mid new c
    → WritingFails writes old new bytes
writes_fail writes old mid new bytes written c run offer nothing call = record {
  calls = c ∷ run.calls;
  made = (mid, run.made, call);
  offered = (run.offered, rest_is run.calls bytes written run.written_is ∙ ap (λ xs. passed run.calls ++ xs) (sym offer));
  stopped = (nothing, run.took);
}

pub on_err : {T E : Type 0} (r : Result T E) (P : Type 0) → P → OnErr r P
on_err (Ok x) P p = tt
on_err (Err e) P p = p
