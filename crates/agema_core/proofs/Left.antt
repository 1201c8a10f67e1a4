-- What the steps of a run leave.
use Rattle.std.proofs.Common.{◌≡◌, ◌≢◌, ◌++◌, ℕ, List, [], ◌∷◌, Bool, IsTrue, Option, Some, Ok, Err, Result, OnErr, length, take, refl, sym, ap, subst, ◌∙◌, inl, inr, arith, codes, length-append}
use Rattle.agm_shelf.specs.Shelf.{Contents, AllStay, IsFrontOrOld, TakesFront}
use Rattle.cell_library.specs.Judged.{PlainCell}
use Rattle.agema_texts.specs.Masks.{Masks}
use Rattle.agema_texts.specs.Auditing.{Audits}
use Rattle.agema_texts.specs.Probing.{Cones}
use Rattle.agema_texts.specs.Reported.{Reports}
use Rattle.agema_texts.specs.Sims.{Sims}
use Rattle.agema_answers.specs.declared.ended.Ended.{Ended}
use Rattle.agema_core.specs.Words.{Mask, Sim, Reporting, Auditing, Probing}
use Rattle.agema_core.specs.Found.{IsPrintEnd, AreCells, HoldsBoth, Holds}
use Rattle.agema_core.specs.Answer.{report_name}
use Rattle.agema_core.specs.Left.{IsDelivery, LeftWhole, LeftPart, Leaves, LeavesMasked, LeftByMask, LeftBySim, LeftByReport, LeftByAudit, LeftByCones}
use Rattle.agema_answers.specs.declared.ended.Ended.TheVariants.{Done, Usage, ReadFault, WriteFault, PrintFault, Memory, Refused}

-- the report's name is another than OUT's
pub another_name : (out : List ℕ) → report_name out ≢ out
another_name out e = let longer : length (out ++ codes ".json") ≡ length out = ap length e in let sum = length-append out (codes ".json") in absurd (omega arith)

all_taken : (xs : List ℕ) → take (length xs) xs ≡ xs
all_taken [] = refl
all_taken (x ∷ xs) = ap (λ ys. x ∷ ys) (all_taken xs)

-- a whole text is one of its first parts
pub whole_front : (text : List ℕ) (before now : Option (List ℕ)) → now ≡ Some text → IsFrontOrOld text before now
whole_front text before now e = inr (length text, e ∙ ap (λ t. Some t) (sym (all_taken text)))

-- both texts are whole, and so each is a first part
pub whole_part : (out net report : List ℕ) (old new : Contents) → LeftWhole out net report new → LeftPart out net report old new
whole_part out net report old new w = record {
  net_left = whole_front net (old out) (new out) w.net_held;
  report_left = whole_front report (old (report_name out)) (new (report_name out)) w.report_held;
  in_order = inr w.net_held;
}

-- the netlist is whole, and the report's file may hold a first part
pub net_part : (out net report : List ℕ) (old mid new : Contents) → mid out ≡ Some net → new out ≡ mid out → mid (report_name out) ≡ old (report_name out) → IsFrontOrOld report (mid (report_name out)) (new (report_name out)) → LeftPart out net report old new
net_part out net report old mid new held kept same front =
    let whole : new out ≡ Some net = kept ∙ held in
    record {
      net_left = whole_front net (old out) (new out) whole;
      report_left = subst (λ before. IsFrontOrOld report before (new (report_name out))) same front;
      in_order = inr whole;
    }

-- the print's end, behind files that are whole
pub printed : (out net report line : List ℕ) (told : Bool) (old new : Contents) (heard : Bool) (before now : List ℕ) (sound : Bool) (f0 f1 : ℕ) (ended : Ended) → IsPrintEnd sound f0 f1 ended
    → (IsTrue told → LeftWhole out net report new) → (ended ≡ Done → IsTrue heard → now ≡ before ++ line) → (ended ≢ Done → IsTrue heard → TakesFront line before now)
    → Leaves out net report line told old new heard before now ended
printed out net report line told old new heard before now sound f0 f1 Done end whole done front = (whole, done refl)
printed out net report line told old new heard before now sound f0 f1 PrintFault end whole done front = (whole, front (λ e. cc))
printed out net report line told old new heard before now sound f0 f1 Memory end whole done front = ((λ t. whole_part out net report old new (whole t)), front (λ e. cc))
printed out net report line told old new heard before now sound f0 f1 Usage end whole done front = absurd end
printed out net report line told old new heard before now sound f0 f1 (ReadFault file) end whole done front = absurd end
printed out net report line told old new heard before now sound f0 f1 (WriteFault file) end whole done front = absurd end
printed out net report line told old new heard before now sound f0 f1 (Refused refusal) end whole done front = absurd end

-- contents that are the same at each name
same_part : (out net report : List ℕ) (old mid new : Contents) → AllStay old mid → LeftPart out net report mid new → LeftPart out net report old new
same_part out net report old mid new same p = record {
  net_left = subst (λ before. IsFrontOrOld net before (new out)) (same out) p.net_left;
  report_left = subst (λ before. IsFrontOrOld report before (new (report_name out))) (same (report_name out)) p.report_left;
  in_order = elim p.in_order [ inl kept ↦ inl (kept ∙ same (report_name out)) | inr whole ↦ inr whole ];
}

same_leaves : (out net report line : List ℕ) (told : Bool) (old mid new : Contents) (heard : Bool) (before now : List ℕ) (ended : Ended) → AllStay old mid
    → Leaves out net report line told mid new heard before now ended → Leaves out net report line told old new heard before now ended
same_leaves out net report line told old mid new heard before now Done same h = h
same_leaves out net report line told old mid new heard before now PrintFault same h = h
same_leaves out net report line told old mid new heard before now (WriteFault file) same h = ((λ t. same_part out net report old mid new same (h.0 t)), h.1)
same_leaves out net report line told old mid new heard before now Memory same h = ((λ t. same_part out net report old mid new same (h.0 t)), h.1)
same_leaves out net report line told old mid new heard before now Usage same h = h
same_leaves out net report line told old mid new heard before now (ReadFault file) same h = h
same_leaves out net report line told old mid new heard before now (Refused refusal) same h = h

left_by : (m : Mask) (told : Bool) (old new : Contents) (heard : Bool) (before now : List ℕ) (ended : Ended) → LeavesMasked m told old new heard before now ended
    → ((sound prints : Bool) (w0 w1 p0 p1 : ℕ) → IsDelivery m.out sound prints w0 w1 p0 p1 ended → LeftByMask m told old new heard before now ended)
left_by m told old new heard before now Done h sound prints w0 w1 p0 p1 d = h
left_by m told old new heard before now PrintFault h sound prints w0 w1 p0 p1 d = h
left_by m told old new heard before now (WriteFault file) h sound prints w0 w1 p0 p1 d = h
left_by m told old new heard before now Memory h sound prints w0 w1 p0 p1 d = inr h
left_by m told old new heard before now Usage h sound prints w0 w1 p0 p1 d = absurd d
left_by m told old new heard before now (ReadFault file) h sound prints w0 w1 p0 p1 d = absurd d
left_by m told old new heard before now (Refused refusal) h sound prints w0 w1 p0 p1 d = absurd d

-- what a delivery leaves of the texts that mask what was read
pub delivered : (m : Mask) (net report line text : List ℕ) (cells : List PlainCell) (told : Bool) (old mid new : Contents) (heard : Bool) (before now : List ℕ) (sound prints : Bool) (w0 w1 p0 p1 : ℕ) (ended : Ended)
    → AllStay old mid → (IsTrue told → AreCells m.library old cells) → (IsTrue told → old m.net ≡ Some text) → Masks cells text m.order net report line → IsDelivery m.out sound prints w0 w1 p0 p1 ended
    → Leaves m.out net report line told mid new heard before now ended → LeftByMask m told old new heard before now ended
delivered m net report line text cells told old mid new heard before now sound prints w0 w1 p0 p1 ended same are read masks end leaves =
    let all : LeavesMasked m told old new heard before now ended = record {
      net = net;
      report = report;
      line = line;
      masks = λ t. (cells, are t, (text, read t, masks));
      leaves = same_leaves m.out net report line told old mid new heard before now ended same leaves;
    } in
    left_by m told old new heard before now ended all sound prints w0 w1 p0 p1 end

-- what the printing of a simulation leaves
pub printed_left : (s : Sim) (text : List ℕ) (told : Bool) (old new : Contents) (heard : Bool) (before now : List ℕ) (sound : Bool) (f0 f1 : ℕ) (ended : Ended) → IsPrintEnd sound f0 f1 ended
    → (IsTrue told → HoldsBoth s.library s.net old (λ cells bytes. Holds (old s.stimulus) (λ stimulus. Sims cells bytes stimulus text))) → AllStay old new
    → (ended ≡ Done → IsTrue heard → now ≡ before ++ text) → (ended ≢ Done → IsTrue heard → TakesFront text before now)
    → LeftBySim s told old new heard before now ended
printed_left s text told old new heard before now sound f0 f1 Done end sims stay done front = record { printed = text; sims = sims; prints = done refl; held = stay }
printed_left s text told old new heard before now sound f0 f1 PrintFault end sims stay done front = record { printed = text; sims = sims; prints = front (λ e. cc); held = stay }
printed_left s text told old new heard before now sound f0 f1 Memory end sims stay done front = inr (record { printed = text; sims = sims; prints = front (λ e. cc); held = stay })
printed_left s text told old new heard before now sound f0 f1 Usage end sims stay done front = absurd end
printed_left s text told old new heard before now sound f0 f1 (ReadFault file) end sims stay done front = absurd end
printed_left s text told old new heard before now sound f0 f1 (WriteFault file) end sims stay done front = absurd end
printed_left s text told old new heard before now sound f0 f1 (Refused refusal) end sims stay done front = absurd end

-- what the printing of a report's line leaves
pub line_left : (r : Reporting) (text : List ℕ) (told : Bool) (old new : Contents) (heard : Bool) (before now : List ℕ) (sound : Bool) (f0 f1 : ℕ) (ended : Ended) → IsPrintEnd sound f0 f1 ended
    → (IsTrue told → Holds (old (report_name r.out)) (λ file. Reports file text)) → AllStay old new
    → (ended ≡ Done → IsTrue heard → now ≡ before ++ text) → (ended ≢ Done → IsTrue heard → TakesFront text before now)
    → LeftByReport r told old new heard before now ended
line_left r text told old new heard before now sound f0 f1 Done end reports stay done front = record { printed = text; reports = reports; prints = done refl; held = stay }
line_left r text told old new heard before now sound f0 f1 PrintFault end reports stay done front = record { printed = text; reports = reports; prints = front (λ e. cc); held = stay }
line_left r text told old new heard before now sound f0 f1 Memory end reports stay done front = inr (record { printed = text; reports = reports; prints = front (λ e. cc); held = stay })
line_left r text told old new heard before now sound f0 f1 Usage end reports stay done front = absurd end
line_left r text told old new heard before now sound f0 f1 (ReadFault file) end reports stay done front = absurd end
line_left r text told old new heard before now sound f0 f1 (WriteFault file) end reports stay done front = absurd end
line_left r text told old new heard before now sound f0 f1 (Refused refusal) end reports stay done front = absurd end

-- what the printing of an audit's line leaves
pub audit_left : (a : Auditing) (text : List ℕ) (told : Bool) (old new : Contents) (heard : Bool) (before now : List ℕ) (sound : Bool) (f0 f1 : ℕ) (ended : Ended) → IsPrintEnd sound f0 f1 ended
    → (IsTrue told → Holds (old a.out) (λ file. Audits file a.order text)) → AllStay old new
    → (ended ≡ Done → IsTrue heard → now ≡ before ++ text) → (ended ≢ Done → IsTrue heard → TakesFront text before now)
    → LeftByAudit a told old new heard before now ended
audit_left a text told old new heard before now sound f0 f1 Done end audits stay done front = record { printed = text; audits = audits; prints = done refl; held = stay }
audit_left a text told old new heard before now sound f0 f1 PrintFault end audits stay done front = record { printed = text; audits = audits; prints = front (λ e. cc); held = stay }
audit_left a text told old new heard before now sound f0 f1 Memory end audits stay done front = inr (record { printed = text; audits = audits; prints = front (λ e. cc); held = stay })
audit_left a text told old new heard before now sound f0 f1 Usage end audits stay done front = absurd end
audit_left a text told old new heard before now sound f0 f1 (ReadFault file) end audits stay done front = absurd end
audit_left a text told old new heard before now sound f0 f1 (WriteFault file) end audits stay done front = absurd end
audit_left a text told old new heard before now sound f0 f1 (Refused refusal) end audits stay done front = absurd end

-- what the printing of the text of probes leaves
pub cones_left : (p : Probing) (text : List ℕ) (told : Bool) (old new : Contents) (heard : Bool) (before now : List ℕ) (sound : Bool) (f0 f1 : ℕ) (ended : Ended) → IsPrintEnd sound f0 f1 ended
    → (IsTrue told → Holds (old p.out) (λ file. Holds (old p.probes) (λ probes. Cones file p.order probes text))) → AllStay old new
    → (ended ≡ Done → IsTrue heard → now ≡ before ++ text) → (ended ≢ Done → IsTrue heard → TakesFront text before now)
    → LeftByCones p told old new heard before now ended
cones_left p text told old new heard before now sound f0 f1 Done end cones stay done front = record { printed = text; cones = cones; prints = done refl; held = stay }
cones_left p text told old new heard before now sound f0 f1 PrintFault end cones stay done front = record { printed = text; cones = cones; prints = front (λ e. cc); held = stay }
cones_left p text told old new heard before now sound f0 f1 Memory end cones stay done front = inr (record { printed = text; cones = cones; prints = front (λ e. cc); held = stay })
cones_left p text told old new heard before now sound f0 f1 Usage end cones stay done front = absurd end
cones_left p text told old new heard before now sound f0 f1 (ReadFault file) end cones stay done front = absurd end
cones_left p text told old new heard before now sound f0 f1 (WriteFault file) end cones stay done front = absurd end
cones_left p text told old new heard before now sound f0 f1 (Refused refusal) end cones stay done front = absurd end

-- what follows where a result is an error
pub on_err_map : {T E P Q : Type 0} (r : Result T E) → OnErr r P → (P → Q) → OnErr r Q
on_err_map (Ok x) h f = tt
on_err_map (Err e) h f = f h
