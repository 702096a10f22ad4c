use Rattle.std.proofs.Common.{◌≡◌, ℕ, List, Some, inr, length, refl, subst, sym, true, ◌∙◌, ap, ◌∷◌, ◌++◌, []}
use Rattle.std.proofs.lemmas.Result.{err_from_is_err_and}
use Rattle.cwr_share.specs.CwrFile.{IsFaultOfLine, IsFaultOfShare, IsShareRecord}
use Rattle.cwr_share.specs.Reading.{IsReadTo}
use Rattle.cwr_share.specs.Records.{is_share_line, share_fields}
use Rattle.cwr_share.specs.Registrations.{ShareLine, share_line_of}
use Rattle.cwr_share.specs.declared.cwr_fault.CwrFault.{CwrFault}
use Rattle.cwr_share.specs.declared.fields.ShareFields.{ShareFields}
use Rattle.cwr_share.specs.declared.reading.Open.{Open}
use Rattle.cwr_share.specs.declared.reading.Reading.{Reading}
use Rattle.cwr_share.proofs.FieldLemmas.{party_fits}
use Rattle.cwr_share.proofs.FileLemmas.{fault_of_share, open_share, read_inside, read_outside, share_stays, sound_share}
use Rattle.cwr_share.proofs.reading.Reading.add_share.Goals as goal

-- what the share line is refused for
refused : (line : List ℕ) (number earlier : ℕ) (fields : ShareFields) (reading : Reading) (registration : Open) (fault : CwrFault)
    → reading.open ≡ Some registration → is_share_line line ≡ true → fields ≡ share_fields line → earlier ≡ length registration.shares.items
    → IsFaultOfShare earlier fields line number fault → (before : List (List ℕ)) → IsReadTo before reading → IsFaultOfLine before number line fault
refused line number earlier fields reading registration fault was is same count wrong = λ before read.
    fault_of_share before line number reading registration fault was is
    (subst (λ (n : ℕ). IsFaultOfShare n (share_fields line) line number fault) count (subst (λ (f : ShareFields). IsFaultOfShare earlier f line number fault) same wrong)) read

pub read-requires : goal.read-requires
read-requires c = record { party = rw c.requires.1 (party_fits c.args.line.now) }

pub returns-in_default-clause-read : goal.returns-in_default-clause-read
returns-in_default-clause-read c = λ before.
    let old = c.args.self.now in
    let none = sym c.in_default.ensures.value in
    read_outside before c.args.line.now old old none none refl (share_stays c.args.line.now c.requires.0).0

pub returns-in_err-share-clause-fault : goal.returns-in_err-share-clause-fault
returns-in_err-share-clause-fault c =
    let p = err_from_is_err_and c.from_residual.result c.from_residual.ensures.1 in
    let registration = c.in-Some.open.now in
    rw (p.1, p.2) (inr (refused c.args.line.now c.args.number c.len.result c.args.fields.now c.args.self.now registration c.in_err-share.field-0.0
    (sym c.in-Some.ensures.value) c.requires.0 c.requires.1 (c.len.ensures ∙ registration.shares.ok.0) c.in_err-share.ensures.fault))

pub returns-clause-read : goal.returns-clause-read
returns-clause-read c = λ before.
    let line = c.args.line.now in
    let old = c.args.self.now in
    let was = c.in-Some.open.now in
    let next : Open = record { work = was.work; shares = c.push.new.self; interest = was.interest } in
    let new : Reading = record { in_force = old.in_force; «open» = Some next } in
    let (good, same) = c.in_ok-share.ensures.share in
    let count : c.len.result ≡ length was.shares.items = c.len.ensures ∙ was.shares.ok.0 in
    let sound : IsShareRecord (length was.shares.items) (share_fields line) line =
    subst (λ (n : ℕ). IsShareRecord n (share_fields line) line) count (subst (λ (f : ShareFields). IsShareRecord c.len.result f line) c.requires.1 good) in
    let shares : next.shares.items ≡ was.shares.items ++ share_line_of was.interest (share_fields line) line ∷ [] =
    c.in_ok-push.ensures.items
    ∙ ap (λ (share : ShareLine). was.shares.items ++ share ∷ []) (same ∙ ap (λ (f : ShareFields). share_line_of was.interest f line) c.requires.1) in
    read_inside before line old new was next (sym c.in-Some.ensures.value) refl refl
    (λ opening body open' with. (
      sound_share before line opening body was c.requires.0 sound open' with,
      open_share opening body line was next c.requires.0 refl shares refl sound with,
    ))
