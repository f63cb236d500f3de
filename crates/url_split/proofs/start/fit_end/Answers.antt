use Rattle.std.proofs.Common.{◌≡◌, ◌<◌, ◌∙◌, ◌+◌, ℕ, List, [], Bor, get_or, true, false, inr, map, take, length, sym, ap, subst, arith}
use Rattle.sp_base.specs.Paths.{is_path}
use Rattle.url_split.proofs.StartLemmas.{bytes_next, fit_next, short_segment, too_many, unfit_next}
use Rattle.url_split.proofs.start.fit_end.Goals as goal
use Rattle.url_split.proofs.start.fit_end.Goals.{then-many-eq-MOST_SEGMENTS-via-then-many-eq-MOST_SEGMENTS, then-many-eq-MOST_SEGMENTS-via-else-many-eq-MOST_SEGMENTS+then-not-seg_ok}

pub returns-then-many-eq-MOST_SEGMENTS : goal.returns-then-many-eq-MOST_SEGMENTS
returns-then-many-eq-MOST_SEGMENTS c =
    let items = c.args.pieces.now in
    let inv = c.loop-piece.invariant in
    let parts : List (List ℕ) = map (λ piece. piece.now) items in
    let within : c.loop-piece.piece-index < length items = c.loop-piece-test.true in
    record {
      many = c.loop-piece.many;
      fit = inv.fit;
      bytes = inv.bytes;
      ends = inr (elim c.then-many-eq-MOST_SEGMENTS.branch [
        | then-many-eq-MOST_SEGMENTS-via-then-many-eq-MOST_SEGMENTS w ↦
            subst (λ n. is_path (take (n + 1) parts) ≡ false) (sym w.if-many-eq-MOST_SEGMENTS.true) (too_many (λ piece. piece.now) items (omega (arith, within, inv.many, w.if-many-eq-MOST_SEGMENTS.true)))
        | then-many-eq-MOST_SEGMENTS-via-else-many-eq-MOST_SEGMENTS+then-not-seg_ok w ↦
            subst (λ n. is_path (take (n + 1) parts) ≡ false) (sym inv.many) (unfit_next (λ piece. piece.now) items c.loop-piece.piece-index _ within (sym w.seg_ok.ensures ∙ w.if-not-seg_ok.true))
      ]);
    }

pub loop-piece-preserved : goal.loop-piece-preserved
loop-piece-preserved c =
    let items = c.args.pieces.now in
    let inv = c.loop-piece.invariant in
    let i = c.loop-piece.piece-index in
    let parts : List (List ℕ) = map (λ piece. piece.now) items in
    let within : i < length items = c.loop-piece-test.true in
    let ok = sym c.seg_ok.ensures ∙ c.if-not-seg_ok.false in
    let few : i < 64 = omega (arith, inv.few, inv.many, c.if-many-eq-MOST_SEGMENTS.false) in
    let none : Bor (List ℕ) = record { ref_ptr = (0, 0); now = [] } in
    let short = short_segment (get_or items i none).now ok in
    record {
      many = ap (λ n. n + 1) inv.many;
      few = omega (arith, few, inv.many);
      fit = subst (λ n. is_path (take (n + 1) parts) ≡ true) (sym inv.many) (fit_next (λ piece. piece.now) items i _ within few (subst (λ n. is_path (take n parts) ≡ true) inv.many inv.fit) ok);
      bytes = bytes_next (λ piece. piece.now) items c.loop-piece.many i c.loop-piece.end _ inv.many within inv.bytes;
      small = omega (arith, inv.small, short);
    }
