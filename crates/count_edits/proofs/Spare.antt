-- The surplus of the lent pair table is left, and so is its length, whatever a traceback answers. Assumes nothing.
use mathlib.Core.List.{List}
use Prim.Native.Nat.{ℕ}
use Rattle.std.proofs.Common.{Err, Ok, Result}
use Rattle.refusals.specs.declared.Refusal.{Refusal}
use Rattle.sequences.proofs.Spared.{Spared, untouched}
use Rattle.count_trace.proofs.Reached.{traced_long, traced_outside}
use Rattle.counting.specs.declared.Record.{Record}
use Rattle.count_edits.specs.Calls.{Traces}
use Rattle.count_edits.proofs.Accepted.{trace_clear}

pub traceback_spare : (r : Record) (b t o o' : List ℕ) (a : Result ℕ Refusal) → Traces r b t o o' a → Spared r.length o o'
traceback_spare r b t o o' (Ok m) c = rw c.1
    (record {
      long = traced_long b t r.gap r.length o (trace_clear r.length b t o c.0).1;
      spare = traced_outside b t r.gap r.length o;
    })
traceback_spare r b t o o' (Err q) c = untouched r.length o o' c.1
