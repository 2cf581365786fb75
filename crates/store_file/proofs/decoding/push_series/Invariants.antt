use Rattle.std.proofs.Common.{◌≡◌}
use Rattle.store_file.proofs.SeriesReading.{SoFar}
use Rattle.store_file.proofs.decoding.push_series.Given as goal

abbrev pub invariant-loop-i : goal.invariant-loop-i
invariant-loop-i l = record {
  far : SoFar l.arena.nodes l.series.entries l.entries l.bytes l.i l.place;
  degree : l.arena.degree ≡ l.fn.arena.degree;
  limit : l.arena.limit ≡ l.fn.arena.limit;
}
