use Rattle.arc_json.proofs.resource_body.shift_json.Goals as goal

-- each text is that of the shift
pub returns : goal.returns
returns c =
    simp (
      c.as_str.ensures.name,
      c.as_str-2.ensures,
      c.as_str-3.ensures.value,
      c.in_ok-resource.ensures,
      c.word_of_status.ensures,
      c.as_str-4.ensures.value,
      c.in_ok-shift.ensures,
    )
    at c.five_texts.ensures
