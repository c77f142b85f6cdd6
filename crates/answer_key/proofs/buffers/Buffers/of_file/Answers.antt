use Rattle.std.proofs.Common.{◌≡◌, replicate, sym, ◌∙◌, rules}
use Rattle.field.specs.declared.Act.TheVariants.{Play}
use Rattle.loading.specs.Loads.{acts_filled, counted, links_filled, losses_filled, rows_filled}
use Rattle.sections.specs.Parts.{act_records, link_records, loss_records, row_records}
use Rattle.answer_key.specs.Files.{blank_link, blank_loss, blank_row}
use Rattle.answer_key.proofs.Buffering.{has_room, vector_filled}
use Rattle.answer_key.proofs.buffers.Buffers.of_file.Goals as goal

pub returns : goal.returns
returns g c =
    let file = c.args.file.now.file.now in
    let b = c.in_ok-buffers.buffers in
    let blank = c.in_ok-buffers.ensures in
    let counts = c.counts.ensures in
    let rows : b.rows.items ≡ replicate (counted file).rows (blank_row c.args.number) = rw counts at blank.rows in
    let links : b.links.items ≡ replicate (counted file).links blank_link = rw counts at blank.links in
    let losses : b.losses.items ≡ replicate (counted file).losses blank_loss = rw counts at blank.losses in
    let acts : b.acts.items ≡ replicate (counted file).acts (Play 0) = rw counts at blank.acts in
    let granted =
    c.fill-counts.ensures.value
    ∙ has_room (counted file) _ _ _ _ _ _ _ _ (c.deref_mut.ensures.value ∙ rows) (c.deref_mut-2.ensures.value ∙ links) (c.deref_mut-3.ensures.value ∙ losses) (c.deref_mut-4.ensures.value ∙ acts) in
    let new = c.fill-counts.new in
    record {
      rows = vector_filled c.fill-counts.result (counted file) granted (rows_filled g.Number.NumberKind.of (row_records file)) new.rows c.deref_mut.result.now b.rows.items _ b.rows.len c.fill-counts.ensures.rows c.fill-counts.auto.rows c.deref_mut.ensures.value rows (sym b.rows.ok.0);
      links = vector_filled c.fill-counts.result (counted file) granted (links_filled (link_records file)) new.links c.deref_mut-2.result.now b.links.items _ b.links.len c.fill-counts.ensures.links c.fill-counts.auto.links c.deref_mut-2.ensures.value links (sym b.links.ok.0);
      losses = vector_filled c.fill-counts.result (counted file) granted (losses_filled (loss_records file)) new.losses c.deref_mut-3.result.now b.losses.items _ b.losses.len c.fill-counts.ensures.losses c.fill-counts.auto.losses c.deref_mut-3.ensures.value losses (sym b.losses.ok.0);
      acts = vector_filled c.fill-counts.result (counted file) granted (acts_filled g.Number.NumberKind.of (act_records file)) new.acts c.deref_mut-4.result.now b.acts.items _ b.acts.len c.fill-counts.ensures.acts c.fill-counts.auto.acts c.deref_mut-4.ensures.value acts (sym b.acts.ok.0);
      senders = search rules;
      log = search rules;
    }
