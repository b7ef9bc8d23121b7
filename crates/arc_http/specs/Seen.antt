-- How the readers inside answer what the tests say.
use Rattle.std.specs.Prelude.{◌≡◌, ℕ, ◌+◌, nat_lt, List, length, None, Result, Ok, Err, if◌then◌else◌}
use Rattle.arc_http.specs.declared.asked.HeadView.{HeadView}
use Rattle.arc_http.specs.declared.end.HeadEnd.{HeadEnd}
use Rattle.arc_http.specs.declared.end.HeadEnd.TheVariants.{BadHead, HeadTooLong}
use Rattle.arc_http.specs.Asked.{Asked}
use Rattle.arc_http.specs.Reading.{Answer, lines_in, most_fields, most_head}

-- what a reader answered, seen by view, is what the tests say
abbrev pub Gives : {X Y : Type 0} → (X → Y) → Result X HeadEnd → Result Y HeadEnd → Type 0
Gives view (Ok x) said = said ≡ Ok (view x)
Gives view (Err end) said = said ≡ Err end

-- a head that passed its tests, as what it asks for
abbrev pub asked_of : HeadView → Asked
asked_of head = record {
  op = head.op.now;
  token = head.token;
  body_length = head.body_length;
  close = head.close;
  local = head.local;
}

-- what is answered while no head is whole
unfoldable pub waiting : List ℕ → Answer
waiting front =
    if nat_lt (most_fields + 1) (lines_in front) then Err BadHead
    else if nat_lt (length front) most_head then Ok None else Err (HeadTooLong most_head)
