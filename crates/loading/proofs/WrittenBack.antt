-- What was filled, written, is the file. Assumes nothing.
use Rattle.std.proofs.Common.{◌≡◌, ℕ, List, ◌++◌, take, is_ok, Some, Ok, Option, sym, ap, ◌∙◌}
use Rattle.field.specs.declared.Act.{Act}
use Rattle.field.specs.declared.Link.{Link}
use Rattle.field.specs.declared.Loss.{Loss}
use Rattle.field.specs.declared.Row.{Row}
use Rattle.field.specs.declared.Settings.{Settings}
use Rattle.numbering.specs.Meaning.{Meaning}
use Rattle.filed.specs.Values.{lawful_of}
use Rattle.recording.specs.Bytes.{field_bytes, act_bytes}
use Rattle.sections.specs.Parts.{row_records, link_records, loss_records, act_records}
use Rattle.checking.specs.Cases.{file_checked, file_code, file_smax}
use Rattle.filed.specs.Codes.{lawful_value}
use Rattle.checking.proofs.Passes.{passed}
use Rattle.loading.specs.declared.counts.Counts.{Counts}
use Rattle.loading.specs.Loads.{lent, counted, roomy, rows_filled, links_filled, losses_filled, acts_filled}
use Rattle.loading.specs.Kept.{Bytes, FilesSettings}
use Rattle.loading.proofs.Roomy.{is_roomy, fit_same}
use Rattle.loading.proofs.Returns.{field_back}

module _ {Num : Type 0} (worth : Num → ℕ) where
  same_bytes :
      {code coded smax top : ℕ} (s : Settings) {rows new_rows : List (Row Num)} {links new_links : List Link} {losses new_losses : List Loss} {acts new_acts : List (Act Num)}
      → code ≡ coded → smax ≡ top → new_rows ≡ rows → new_links ≡ links → new_losses ≡ losses → new_acts ≡ acts
      → field_bytes worth code smax s new_rows new_links new_losses ++ act_bytes worth new_acts ≡ field_bytes worth coded top s rows links losses ++ act_bytes worth acts
  same_bytes s code smax rows links losses acts = rw (code, smax, rows, links, losses, acts)

  -- the front of a buffer that was filled
  front_same : {A : Type 0} {count counted : ℕ} {new buffer : List A} → count ≡ counted → new ≡ buffer → take count new ≡ take counted buffer
  front_same count buffer = rw (count, buffer)

  module _ (file : List ℕ) (fits : Bytes file) (passes : file_checked file ≡ Ok tt) (m : Meaning Num) (of : ℕ → Option Num)
      (undone : (v : ℕ) (x : Num) → of v ≡ Some x → worth x ≡ v)
      {code smax : ℕ} (coded : code ≡ file_code file) (topped : smax ≡ file_smax file) (lawful : (v : ℕ) → lawful_value code smax v ≡ lawful_of m of v)
      (s : Settings) (has : FilesSettings file s) (rows : List (Row Num)) (links : List Link) (losses : List Loss) (acts : List (Act Num)) where
    pub filled_back :
        (counts : Counts) {new_rows : List (Row Num)} {new_links : List Link} {new_losses : List Loss} {new_acts : List (Act Num)}
        → Ok counts ≡ roomy (counted file) (lent rows links losses acts)
        → new_rows ≡ rows_filled of (row_records file) rows → new_links ≡ links_filled (link_records file) links → new_losses ≡ losses_filled (loss_records file) losses → new_acts ≡ acts_filled of (act_records file) acts
        → field_bytes worth code smax s new_rows (take counts.links new_links) (take counts.losses new_losses) ++ act_bytes worth (take counts.acts new_acts) ≡ file
    filled_back counts granted row_is link_is loss_is act_is =
        let room = is_roomy (counted file) (lent rows links losses acts) (ap is_ok (sym granted)) in
        let count : counts ≡ counted file = fit_same _ _ _ granted in
        let own : (v : ℕ) → lawful_value (file_code file) (file_smax file) v ≡ lawful_of m of v = λ v. ap (λ (k : ℕ). lawful_value k (file_smax file) v) (sym coded) ∙ ap (λ (k : ℕ). lawful_value code k v) (sym topped) ∙ lawful v in
        let links_same = front_same (ap (λ (c : Counts). c.links) count) link_is in
        let losses_same = front_same (ap (λ (c : Counts). c.losses) count) loss_is in
        let acts_same = front_same (ap (λ (c : Counts). c.acts) count) act_is in
        same_bytes s coded topped row_is links_same losses_same acts_same
        ∙ field_back file (passed file (ap is_ok passes)) fits m of worth undone own s rows links losses room.rows room.links room.losses has acts room.acts
