use Rattle.std.proofs.Common.{◌≡◌, ℕ, ◌*◌, ◌<◌, Some, sym, ap, ap₂, subst, ◌∙◌, arith}
use Rattle.descent.specs.declared.Pick.{Pick}
use Rattle.descent.specs.Held.{row_in, shown}
use Rattle.descent.specs.Laid.{blocks}
use Rattle.descent.specs.Readers.{track_at}
use Rattle.descent.specs.Rows.{Row, Track, with_rows}
use Rattle.descent.proofs.KeptPicks.{block-beyond, block-found, track-shown}
use Rattle.descent.proofs.kept_says.pick_at.Goals as goal

pub returns-then-rest-blocks : goal.returns-then-rest-blocks
returns-then-rest-blocks g c =
    let ts = c.args.tables.now in
    let i = c.loop-i.i in
    let t = c.index-tables-i.result in
    let at : track_at (shown ts) i ≡ with_rows row_in t = track-shown ts i t c.loop-i-test.true c.index-tables-i.is in
    let len : c.blocks-blocks.result ≡ blocks (track_at (shown ts) i).len = c.blocks-blocks.ensures.count ∙ ap (λ (u : Track Row). blocks u.len) (sym at) in
    let below : c.loop-i.rest < blocks (track_at (shown ts) i).len = subst (λ n. c.loop-i.rest < n) len c.if-rest-blocks.true in
    (λ j block lt within place.
    let f = block-found (shown ts) c.args.place i c.loop-i.rest j block c.loop-i.invariant below within place in
    let series : c.series.result ≡ (track_at (shown ts) j).series = c.series.ensures ∙ ap (λ (u : Track Row). u.series) (sym at) ∙ ap (λ k. (track_at (shown ts) k).series) f.0 in
    ap₂ (λ (s n : ℕ). Some (let p : Pick = record { series = s; start = n } in p)) series (ap (λ n. 16 * n) f.1))

pub returns : goal.returns
returns g c = λ j block lt within place.
    let n = c.loop-i-test.false in
    absurd (block-beyond (shown c.args.tables.now) c.args.place c.loop-i.i c.loop-i.rest j block c.loop-i.invariant (omega arith) within place)
