use Rattle.brc_c_image.proofs.state.+filled_from.Given as goal

-- how many registers can be left
abbrev pub decreases-filled_from : goal.decreases-filled_from
decreases-filled_from l = l.left
