mod NoteEnds
