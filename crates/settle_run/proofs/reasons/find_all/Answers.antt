use Rattle.std.proofs.Common.{ℕ, pos, ◌≡◌, ◌+◌, Option, None, length, map, get_or, sym, subst, inl, inr, arith}
use Rattle.std.specs.Prelude.{IfSome}
use Rattle.std.proofs.lemmas.Bool.{cases_lt}
use Rattle.std.proofs.lemmas.List.{get_or_past}
use Rattle.line_split.specs.declared.reason.Reason.{Reason}
use Rattle.line_split.specs.declared.reason.Reason.TheVariants.{Open}
use Rattle.settle_run.specs.Settled.{reason_of}
use Rattle.settle_run.proofs.reasons.find_all.Goals as goal

pub returns : goal.returns
returns g c =
    let residue = c.args.residue.now in
    let owns = map (reason_of c.args.tis.now c.args.registry.now) c.args.usage.now in
    let found = c.for_each_chunk_mut.new.s in
    let none : Option Reason = None in record {
      found = λ k. elim (cases_lt k (length c.args.found.now)) [
        | inl low ↦
            let it = (c.for_each_chunk_mut.ensures.by_index k none low).1 in
            let place : it.start + it.offset ≡ 0 + k = omega (arith, it.start_plus_offset) in
            subst (λ (r : Option Reason). IfSome r (λ reason. reason ≡ get_or owns (get_or residue (0 + k) (0, pos 0)).0 Open)) it.new_element
            (subst (λ (n : ℕ). IfSome (get_or it.after_call.now it.offset none) (λ reason. reason ≡ get_or owns (get_or residue n (0, pos 0)).0 Open)) place (it.call it.offset))
        | inr past ↦
            subst (λ (r : Option Reason). IfSome r (λ reason. reason ≡ get_or owns (get_or residue (0 + k) (0, pos 0)).0 Open))
            (sym (get_or_past found k none (omega (arith, past, c.for_each_chunk_mut.auto.s)))) tt
      ];
    }
