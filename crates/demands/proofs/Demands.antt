-- The three demands of specs/Demands.antt, each proved by one term.
-- Assumes nothing.
use Rattle.demands.specs.Demands.{Demand1, Demand2, Demand3, Demands}
use Rattle.demands.proofs.Refusing.{answered-all, exactly, only_under, lowest-record, lowest-place, untouched}
use Rattle.demands.proofs.ReadsFrom.{reads-from}
use Rattle.demands.proofs.Undoing.{acceptance, accepted-exactly, left-passes, least-set, fewest}
use Rattle.demands.proofs.Deleted.{delete-model}
use Rattle.demands.proofs.Incremental.{once-distinct, once-joins, incremental-undo}
use Rattle.demands.proofs.Appending.{appended-reads, appended-onto, rebuilding}
use Rattle.demands.proofs.Onto.{appended-after}

pub demand-1 : Demand1
demand-1 =
    record {
      undo = λ d bad status out. record {
        answered = answered-all.undo d bad status out;
        untouched = untouched.undo d bad status out;
        only_under = only_under.undo d bad status out;
        exactly = exactly.undo d bad status out;
      };
      append = λ d c kind s x a. record {
        answered = answered-all.append d c kind s x a;
        untouched = untouched.append d c kind s x a;
        only_under = only_under.append d c kind s x a;
        exactly = exactly.append d c kind s x a;
      };
      start = λ b n. record {
        answered = answered-all.start b n;
        untouched = untouched.start b n;
        only_under = only_under.start b n;
        exactly = exactly.start b n;
      };
      check = λ d. record { answered = answered-all.check d; untouched = λ e. tt; only_under = only_under.check d; exactly = exactly.check d };
      chain = λ b s l. record {
        answered = answered-all.chain b s l;
        untouched = untouched.chain b s l;
        only_under = only_under.chain b s l;
        exactly = exactly.chain b s l;
      };
      count_records = λ b. record {
        answered = answered-all.count_records b;
        untouched = λ e. tt;
        only_under = only_under.count_records b;
        exactly = exactly.count_records b;
      };
      lowest_record = lowest-record;
      lowest_place = lowest-place;
    }

pub demand-2 : Demand2
demand-2 =
    record {
      set = least-set;
      copy_and_table = delete-model;
      reads_from = reads-from;
      built = appended-reads;
      built_onto = appended-onto;
      built_after = appended-after;
      rebuilt = rebuilding;
    }

pub demand-3 : Demand3
demand-3 =
    record {
      acceptance = acceptance;
      exactly = accepted-exactly;
      left = left-passes;
      fewest = fewest;
      incremental = incremental-undo;
      joined = once-joins;
      once = once-distinct;
    }

pub demands : Demands
demands = record { first = demand-1; second = demand-2; third = demand-3 }
